-- What clients ask of a board service and what it answers, what each session promises, and how the command goes that
-- serves a board. Lists of commands have the newest first, lists of calls the oldest.
use Rattle.std.specs.Prelude.{ℕ, ◌-◌, ◌≤◌, List, [], ◌∷◌, length, take, drop, map, codes, Option, Some, None, ◌≡◌, ◌⊎◌, IfSome, IsSome, Result, Ok, Err, IfOk, OnErr, ◌+◌, nat_eq, ◌++◌, slice_get, ◌≢◌, Bool, true, false, ◌<◌, IsTrue, OnOk, option_map, option_and_then, if◌then◌else◌}
use Rattle.std.specs.List.{AllByRecursion, filter, flat_map, All}
use Rattle.serde_json.specs.Data.{Data, string, array, object, member, no_members}
use Rattle.serde_json.specs.View.{items_of}
use Rattle.tf_report.specs.Lines.{job_line}
use Rattle.tf_report.specs.declared.job_lines.JobLine.{JobLine}
use Rattle.tf_board.specs.Board.{parsed_id, priority_named, owner_of, listed, AreOfBoard, LeavesBoard, board_in}
use Rattle.tf_board.specs.Does.{call_text, refusal_text, kept_text, Ends, EndsUnopened, HasCauses, HasJobs, HoldsEither, refuses_call, id_named, job_of}
use Rattle.tf_board.specs.declared.board.Owner.{Owner}
use Rattle.tf_board.specs.declared.commands.Command.{Command}
use Rattle.tf_board.specs.declared.rules.Refusal.{Refusal}
use Rattle.tf_wire.specs.Grammar.{frame_of, chain, at, size_of, name_of, value_of, message_of}
use Rattle.tf_shared_board.specs.Shared.{AreAbout, followed_by, SharedValue, HasCause, IsMade, halt_or_memory, IsUnrecorded, LeavesSome, HaltsFor, halt_status, halt_text}
use Rattle.tf_board.specs.declared.calls.JobCall.{JobCall}
use Rattle.tf_board_service.specs.declared.replies.BoardReply.{BoardReply}
use Rattle.tf_board.specs.declared.calls.BoardRequest.{BoardRequest}
use Rattle.tf_desk.specs.State.{DeskState, anything, GoesOn, Says}
use Rattle.tf_shared_board.specs.declared.calls.BoardHalt.{BoardHalt}
use Rattle.tf_shared_board.specs.declared.calls.Made.{Made}
use Rattle.tf_values.specs.declared.faults.Memory.{Memory}
use Rattle.tf_numbers.specs.Numbers.{Rises}
use Rattle.tf_ports.specs.Ports.{SeenLink, DoorTold, opened_at, told_with_all}
use Rattle.tf_sessions.specs.Talks.{Talk, TalkEndsAs, BeginsWithFrameSo}
use Rattle.tf_sessions.specs.declared.incoming.ServeEnd.{ServeEnd}
use Rattle.tf_board_service.specs.declared.sessions.Session.{Session}
use Rattle.tf_board_service.specs.declared.sessions.SessionEnd.{SessionEnd}
use Rattle.std.specs.Fmt.{decimal}
use Rattle.tf_desk.specs.Crash.{Pairs, ShowsPrefix}
use Rattle.tf_journal.specs.Start.{IsStart, file_of}
use Rattle.tf_ports.specs.declared.crews.Address.{Address}
use Rattle.tf_report.specs.Closing.{ClosesWith, ClosesWithOrStops, cannot_listen}
use Rattle.tf_report.specs.declared.statuses.TheConstants.{SUCCEEDED, DISK_FAILED, NO_BOOK, UNHIRED, UNSAID, OUT_OF_MEMORY, FULL}
use Rattle.serde_json.specs.Find.{as_str}
use Rattle.tf_states.specs.declared.priorities.Priority.{Priority}
use Rattle.tf_flow.specs.Tree.{same_name}
use Rattle.tf_board.specs.declared.commands.JobAction.{JobAction}
use Rattle.tf_board.specs.declared.board.Owner.TheVariants as owned
use Rattle.tf_board.specs.declared.commands.JobAction.TheVariants as action
use Rattle.tf_board.specs.declared.rules.Refusal.TheVariants as refusal
use Rattle.tf_board.specs.declared.calls.JobCall.TheVariants as call
use Rattle.tf_board_service.specs.declared.replies.BoardReply.TheVariants as reply
use Rattle.tf_board.specs.declared.calls.BoardRequest.TheVariants as request
use Rattle.tf_board_service.specs.declared.sessions.SessionEnd.TheVariants as end
use Rattle.tf_sessions.specs.declared.incoming.ServeEnd.TheVariants as talked

-- ---- what a client asks, as JSON: an object with the keys of its call and no others

-- an id, in one of its text forms
abbrev pub id_spelled : Data → Option (List ℕ)
id_spelled found = option_and_then parsed_id (as_str found)

-- how urgent a job is, by its name
abbrev pub priority_of : Data → Option Priority
priority_of found = option_and_then priority_named (as_str found)

-- the members of a post
abbrev pub post_of : Data → Option BoardRequest
post_of found =
    chain (at (codes "details") value_of found) (λ details.
    chain (at (codes "name") name_of found) (λ name.
    chain (at (codes "priority") priority_of found) (λ priority.
    Some (request.Call (call.Post name priority details)))))

-- what an owner does with a job
abbrev pub asks : JobAction → Data → Option BoardRequest
asks action found =
    chain (at (codes "id") id_spelled found) (λ id.
    option_map (λ owner. request.Call (call.Apply action id owner)) (at (codes "owner") name_of found))

-- the member of a question for an owner
abbrev pub owner_spelled : Data → Option BoardRequest
owner_spelled found = option_map request.Owner (at (codes "id") id_spelled found)

-- the members beside the word that names the call, and no others
abbrev pub call_named : Data → List ℕ → Option BoardRequest
call_named found word =
    if same_name word (codes "post") then (if nat_eq (size_of found) 4 then post_of found else None)
    else if same_name word (codes "claim") then (if nat_eq (size_of found) 3 then asks action.Claim found else None)
    else if same_name word (codes "abandon") then (if nat_eq (size_of found) 3 then asks action.Abandon found else None)
    else if same_name word (codes "consume") then (if nat_eq (size_of found) 3 then asks action.Consume found else None)
    else if same_name word (codes "trash") then (if nat_eq (size_of found) 3 then asks action.Trash found else None)
    else if same_name word (codes "owner") then (if nat_eq (size_of found) 2 then owner_spelled found else None)
    else if same_name word (codes "list") then (if nat_eq (size_of found) 1 then Some request.List else None)
    else None

-- the request that JSON spells
abbrev pub request_of : Data → Option BoardRequest
request_of found = chain (at (codes "call") as_str found) (call_named found)

-- the request that bytes spell
abbrev pub board_request_in : List ℕ → Option BoardRequest
board_request_in bytes = chain (message_of bytes) request_of

-- ---- lines and messages

-- a line without its line feed
abbrev pub without_feed : List ℕ → List ℕ
without_feed line = take (length line - 1) line

-- a message without the program's name and its line feed
abbrev pub without_name : List ℕ → List ℕ
without_name message = drop (length (codes "taskflow: ")) (without_feed message)

-- ---- what each request is answered with

-- one line
abbrev pub says : List ℕ → BoardReply
says line = reply.Lines (without_feed line ∷ [])

-- a refusal, of the job of this id
abbrev pub refused_for : Refusal → List ℕ → BoardReply
refused_for why id = reply.Refused (without_name (refusal_text why id))

-- what a call is answered with, where it is refused for this reason or isn't
abbrev pub call_reply : Option Refusal → List Command → JobCall → BoardReply
call_reply None past asked = says (call_text asked (job_of past asked))
call_reply (Some why) past asked = refused_for why (id_named asked)

-- who has the job of an id
abbrev pub owner_reply : Owner → List ℕ → BoardReply
owner_reply owned.NoJob id = refused_for refusal.NoJob id
owner_reply owned.Gone id = refused_for refusal.Gone id
owner_reply owned.Free id = says (kept_text None)
owner_reply (owned.Of name) id = says (kept_text (Some name))

-- the most lines of a reply
abbrev pub MOST_LINES : ℕ
MOST_LINES = 1000

-- the line of a listed job
abbrev pub list_line : JobLine → List ℕ
list_line job = without_feed (job_line job)

-- the lines of a list, as many as a reply may have
abbrev pub first_lines : List JobLine → List (List ℕ)
first_lines jobs = map list_line (take MOST_LINES jobs)

-- what a request is answered with after these commands
abbrev pub reply_of : List Command → BoardRequest → BoardReply
reply_of past (request.Call asked) = call_reply (refuses_call past asked) past asked
reply_of past (request.Owner id) = owner_reply (owner_of past id) id
reply_of past request.List = reply.Lines (first_lines (listed past))

-- ---- as JSON

-- an object whose one key tells the lines, or why the request is refused
abbrev pub lines_data : Data → Data
lines_data lines = object (member (codes "lines") lines no_members)

abbrev pub refused_data : Data → Data
refused_data why = object (member (codes "refused") why no_members)

-- a reply
abbrev pub reply_data : BoardReply → Data
reply_data (reply.Lines lines) = lines_data (array (items_of (map string lines)))
reply_data (reply.Refused why) = refused_data (string why)

-- as its frame
unfoldable pub reply_frame : BoardReply → List ℕ
reply_frame reply = frame_of (reply_data reply)

-- a call, unless it is refused
abbrev pub unless_refused : Option Refusal → Made → Option Made
unless_refused None m = Some m
unless_refused (Some why) m = None

-- the call that a request makes after these commands, under this number; none where it is refused, or asks for none
abbrev pub call_made : ℕ → List Command → BoardRequest → Option Made
call_made number past (request.Call asked) =
    unless_refused (refuses_call past asked) (record { number = number; job = job_of past asked; call = asked })
call_made number past (request.Owner id) = None
call_made number past request.List = None

-- a reply is told, or there is no memory for it, and the board is halted
abbrev pub OrHalts : {K : Type 0} → Result BoardReply Memory → SharedValue K → SharedValue K → Option BoardReply
    → Type 0
OrHalts (Ok reply) old new result = (result ≡ Some reply) × (new ≡ old)
OrHalts (Err memory) old new result = (result ≡ None) × (new ≡ record old { halt = halt_or_memory old.halt })

module _ {K : Type 0} (state : K → DeskState) where
  -- no call was made; it may be halted now, for its cause
  pub record MakesNoCall (old new : SharedValue K) : Type 0 where
    pub start : new.start ≡ old.start
    pub made : new.made ≡ old.made
    pub past : new.board.past ≡ old.board.past
    pub goes : GoesOn anything (state old.board.journal.desk) (state new.board.journal.desk)
    pub stays : (halt : BoardHalt) → old.halt ≡ Some halt → new.halt ≡ Some halt
    pub still : (halt : BoardHalt) → old.halt ≡ Some halt → new.board ≡ old.board
    pub cause : old.halt ≡ None → IfSome new.halt (HasCause state old.board new.board)

  -- this call was made, and nothing else; or nothing, where there is none
  abbrev pub Makes : Option Made → SharedValue K → SharedValue K → Type 0
  Makes None old new = new ≡ old
  Makes (Some m) old new =
      IsMade state m old new × GoesOn anything (state old.board.journal.desk) (state new.board.journal.desk)

  -- a call was made, or it is refused, and this is the reply; or there is no reply: then it was made or wasn't, and the
  -- board may be halted
  pub record CallsSo (number : ℕ) (asked : JobCall) (old new : SharedValue K)
      (result : Result BoardReply Memory) : Type 0 where
    pub replied : IfOk result
        (λ reply. (reply ≡ reply_of old.board.past (request.Call asked))
        × Makes (call_made number old.board.past (request.Call asked)) old new)
    pub failed : OnErr result
        (Makes (call_made number old.board.past (request.Call asked)) old new ⊎ MakesNoCall old new)

  -- it is halted now; the call was made before, or none
  pub record StopsAfter (call : Option Made) (old new : SharedValue K) : Type 0 where
    pub mid : SharedValue K
    pub before : (mid ≡ old) ⊎ Makes call old mid
    pub none : MakesNoCall mid new
    pub halted : IsSome new.halt

  -- a request was answered by the reply after the commands before it, and its call was made; or it wasn't answered, and
  -- the board is halted
  abbrev pub Answers : ℕ → BoardRequest → SharedValue K → SharedValue K → Option BoardReply → Type 0
  Answers number asked old new (Some reply) =
      (reply ≡ reply_of old.board.past asked) × (old.halt ≡ None)
      × Makes (call_made number old.board.past asked) old new
  Answers number asked old new None = StopsAfter (call_made number old.board.past asked) old new

-- a board's first commands, so many
abbrev pub first_of : ℕ → List Command → List Command
first_of count past = drop (length past - count) past

-- a request that was answered, and how many commands stood before it
pub record Exchange : Type 0 where
  pub request : BoardRequest
  pub point : ℕ

-- how many stood before each of some
abbrev pub points_of : List Exchange → List ℕ
points_of exchanges = map (λ e. e.point) exchanges

-- the frame of its reply: from the commands that stood before it
abbrev pub told : List Command → Exchange → List ℕ
told past e = reply_frame (reply_of (first_of e.point past) e.request)

-- the frames of the replies, in order
abbrev pub replies : List Command → List Exchange → List (List ℕ)
replies past exchanges = map (told past) exchanges

-- the call that it made under a session's number, unless it was refused or asks for none
abbrev pub call_of : ℕ → List Command → Exchange → Option Made
call_of number past e = call_made number (first_of e.point past) e.request

-- such a call as a list
abbrev pub as_list : Option Made → List Made
as_list None = []
as_list (Some m) = m ∷ []

-- the calls that some requests made, in order
abbrev pub calls_of : ℕ → List Command → List Exchange → List Made
calls_of number past exchanges = flat_map (λ e. as_list (call_of number past e)) exchanges

-- the calls that carry a number, in order
abbrev pub calls_by : ℕ → List Made → List Made
calls_by number calls = filter (λ m. nat_eq m.number number) calls

-- the least point after a request at this point: greater where it made a call
abbrev pub after_point : Option Made → ℕ → ℕ
after_point None point = point
after_point (Some m) point = point + 1

-- from this least point on no point falls, each after a call of the session's own is greater than that call's, and none
-- passes the commands
abbrev pub NeverFall : ℕ → List Command → ℕ → List Exchange → Type 0
NeverFall number past least [] = least ≤ length past
NeverFall number past least (e ∷ exchanges) =
    (least ≤ e.point) × NeverFall number past (after_point (call_of number past e) e.point) exchanges

-- the call that it made, if it made one, stands at its point; the first commands were so many
abbrev pub IsAtPoint : ℕ → List Command → ℕ → List Made → Exchange → Type 0
IsAtPoint number past first calls e =
    (m : Made) → call_of number past e ≡ Some m → slice_get calls (e.point - first) ≡ Some m

-- the calls of a session are just those of its requests, each once, at its point, in their order; and perhaps this one
-- more after them
pub record MadeBy (number : ℕ) (past : List Command) (first : ℕ) (calls : List Made) (exchanges : List Exchange)
    (more : List Made) : Type 0 where
  pub calls_are : calls_by number calls ≡ calls_of number past exchanges ++ more
  pub at_points : AllByRecursion (IsAtPoint number past first calls) exchanges

-- ---- requests

-- each frame spells the request of its exchange
abbrev pub AreRead : List (List ℕ) → List Exchange → Type 0
AreRead [] [] = Unit {0}
AreRead [] (e ∷ exchanges) = ⊥
AreRead (frame ∷ frames) [] = ⊥
AreRead (frame ∷ frames) (e ∷ exchanges) = (board_request_in frame ≡ Some e.request) × AreRead frames exchanges

-- the frame spells no request
abbrev pub SpellsNone : List ℕ → Type 0
SpellsNone frame = board_request_in frame ≡ None

-- ---- sessions

-- Of the bytes that the link gave the frames at their front were read as requests. Each was answered from the commands
-- that stood before it then: the link was sent a prefix of the replies, each before more came. The calls of the session
-- are just those of its requests.
pub record Serves (number first : ℕ) (past : List Command) (calls : List Made) (before now : SeenLink)
    (points : List ℕ) : Type 0 where
  pub frames : List (List ℕ)
  pub exchanges : List Exchange
  pub read : AreRead frames exchanges
  pub points_are : points ≡ points_of exchanges
  pub rising : NeverFall number past first exchanges
  pub talk : Talk before now frames (replies past exchanges) []
  pub more : List Made
  pub made : MadeBy number past first calls exchanges more

-- one call more is that of the next request, whose reply wasn't sent
pub record IsNextCall (number : ℕ) (past : List Command) (behind : List ℕ) (more : List Made) : Type 0 where
  pub request : BoardRequest
  pub point : ℕ
  pub within : point ≤ length past
  pub begins : BeginsWithFrameSo (λ frame. board_request_in frame ≡ Some request) behind
  pub call : Made
  pub makes : call_made number (first_of point past) request ≡ Some call
  pub is : more ≡ call ∷ []

-- the end of the talk over the link of a session that ended so
abbrev pub talk_end : SessionEnd → ServeEnd
talk_end end.Ended = talked.Ended
talk_end end.Lost = talked.Lost
talk_end (end.Bad at) = talked.Bad at
talk_end end.Halted = talked.Memory

-- which calls were made besides those of the requests that were answered: none; where the session is halted, none or
-- that of the next request
abbrev pub IsMoreAt : SessionEnd → ℕ → List Command → List ℕ → List Made → Type 0
IsMoreAt end.Ended number past behind more = more ≡ []
IsMoreAt end.Lost number past behind more = more ≡ []
IsMoreAt (end.Bad at) number past behind more = more ≡ []
IsMoreAt end.Halted number past behind more = (more ≡ []) ⊎ IsNextCall number past behind more

-- How a session ends. Ended: the link ended between two frames. Lost: the link failed, or it ended inside a frame. Bad:
-- at this place stands a frame that spells no request, or a length that no frame has. Halted: one call more may have
-- been made.
abbrev pub SessionEndsAs : {number first : ℕ} {past : List Command} {calls : List Made} {before now : SeenLink}
    {points : List ℕ}
    → SessionEnd → Serves number first past calls before now points → Type 0
SessionEndsAs {number} {first} {past} how s =
    TalkEndsAs SpellsNone (talk_end how) s.talk × IsMoreAt how number past s.talk.behind s.more

-- what a session promises
pub record IsServed (number first : ℕ) (past : List Command) (calls : List Made) (before now : SeenLink)
    (session : Session) : Type 0 where
  pub serves : Serves number first past calls before now session.points
  pub ends_as : SessionEndsAs session.end serves

-- a session is halted
abbrev pub is_halted : SessionEnd → Bool
is_halted end.Ended = false
is_halted end.Lost = false
is_halted (end.Bad at) = false
is_halted end.Halted = true

-- where a session is halted the board is
abbrev pub HaltsWith : Option BoardHalt → List Session → Type 0
HaltsWith halt sessions = All (λ s. is_halted s.end ≡ true → IsSome halt) sessions

-- ---- what is said

-- how a session ended
abbrev pub end_word : SessionEnd → List ℕ
end_word end.Ended = codes " ended\n"
end_word end.Lost = codes " lost\n"
end_word (end.Bad at) = codes " bad " ++ decimal at ++ codes "\n"
end_word end.Halted = codes " halted\n"

-- the line of a session of this number
unfoldable pub session_line : ℕ → SessionEnd → List ℕ
session_line number how = codes "session " ++ decimal number ++ end_word how

-- the lines of sessions in order, the first of which has this number
abbrev pub session_lines : ℕ → List Session → List ℕ
session_lines number [] = []
session_lines number (s ∷ others) = session_line number s.end ++ session_lines (number + 1) others

-- what is said where sessions are over: a line for each, in order, and why the board doesn't go on, if it doesn't
abbrev pub service_text : List Session → Option BoardHalt → List ℕ
service_text sessions halted = session_lines 1 sessions ++ halt_text halted

-- ---- the door

-- it gave these links more
abbrev pub gave_links : DoorTold → List SeenLink → DoorTold
gave_links told links = record told { given = told_with_all told.given links }

-- these links more were given back
abbrev pub took_links : DoorTold → List SeenLink → DoorTold
took_links told links = record told { returned = told_with_all told.returned links }

-- these links were given back; unless memory ran out for one, all of them
pub record GivesBack (links : List SeenLink) (old new : DoorTold) (result : Result (Unit {0}) Memory) : Type 0 where
  pub back : List SeenLink
  pub now : new ≡ took_links old back
  pub few : length back ≤ length links
  pub all : OnOk result (back ≡ links)

-- the door was opened at the address, gave these links and was given back those
abbrev pub OpensFor : Address → List SeenLink → List SeenLink → DoorTold → DoorTold → Type 0
OpensFor address given back old new = new ≡ took_links (gave_links (opened_at old address) given) back

-- it gave at most so many links, which were given back as they came; all of them, where this is so
pub record GivesInVain (count : ℕ) (old new : DoorTold) (whole : Type 0) : Type 0 where
  pub given : List SeenLink
  pub back : List SeenLink
  pub few : length given ≤ count
  pub some : length back ≤ length given
  pub all : whole → back ≡ given
  pub now : new ≡ took_links (gave_links old given) back

-- nothing was served: the door wasn't opened, or it was opened at the address and gave some links in vain
pub data OpensInVain (address : Address) (count : ℕ) (old new : DoorTold) (whole : Type 0) : Type 0 where
  not_opened : new ≡ old → OpensInVain address count old new whole
  opened_in_vain : GivesInVain count (opened_at old address) new whole → OpensInVain address count old new whole

-- ---- the sessions

-- Sessions were served over these links side by side, from a board that had these commands, and these calls were made:
-- a board may hold their commands, each is about its job, and each is one of these sessions', of which each did just
-- what its requests asked.
pub record AreServedOver (past : List Command) (made : List Made) (given returned : List SeenLink)
    (sessions : List Session) : Type 0 where
  pub legal : AreOfBoard (followed_by past made)
  pub about : AreAbout past made
  pub numbers : All (λ m. m.number < length given) made
  pub links : length returned ≡ length given
  pub as_many : length sessions ≡ length given
  pub each : (i : ℕ) (first last : SeenLink) (s : Session) → slice_get given i ≡ Some first
      → slice_get returned i ≡ Some last → slice_get sessions i ≡ Some s
      → IsServed i (length past) (followed_by past made) made first last s

-- ---- what the file has, and what a crash leaves

-- a crash since the start leaves the commands from before, followed by those of some first of the calls, and nothing
-- said; or all commands, perhaps with the pending one, and a prefix of the message
abbrev pub LeavesCalls : List Command → List Made → List Command → DeskState → List ℕ → Pairs
LeavesCalls past made pending entry message image text =
    (LeavesBoard past entry image text ⊎ LeavesSome past made pending entry image text)
    ⊎ (HoldsEither pending (followed_by past made) (board_in image) × ShowsPrefix entry.shown message (Some text))

-- the file has the commands from before followed by those of the calls, or the pending one too; the other files stay; a
-- crash leaves some of the calls
pub record KeepsCalls (name : List ℕ) (past : List Command) (made : List Made) (halted : Option BoardHalt)
    (entry now : DeskState) (message : List ℕ)
    : Type 0 where
  pub pending : List Command
  pub is_pending : IsUnrecorded halted (followed_by past made) pending
  pub file : HoldsEither pending (followed_by past made) (board_in (file_of now name))
  pub others : (other : List ℕ) → other ≢ name → now.content.files other ≡ entry.content.files other
  pub crash : (moment : ℕ) → IsStart name entry now moment → (image text : List ℕ) → now.crashes moment image text
      → LeavesCalls past made pending entry message image text

-- ---- the command

-- sessions were served over the links that the door gave at the address, as many as were asked for, and their lines
-- were said; each link was given back as its session left it, unless memory ran out for that
pub record ServesOver (name : List ℕ) (address : Address) (count : ℕ) (old new : DoorTold) (entry now : DeskState)
    (past : List Command) (status : ℕ)
    : Type 0 where
  pub made : List Made
  pub given : List SeenLink
  pub returned : List SeenLink
  pub back : List SeenLink
  pub sessions : List Session
  pub halted : Option BoardHalt
  pub many : length given ≡ count
  pub door : OpensFor address given back old new
  pub gave_back : (back ≡ returned) ⊎ ((status ≡ OUT_OF_MEMORY) × (length back ≤ length given))
  pub served_over : AreServedOver past made given returned sessions
  pub halts : HaltsWith halted sessions
  pub cause : IfSome halted (HaltsFor (followed_by past made) entry now)
  pub closes : ClosesWithOrStops entry.shown (service_text sessions halted) (halt_status halted) now.shown status
  pub keeps : IsTrue entry.tells → KeepsCalls name past made halted entry now (service_text sessions halted)

-- the ways that the command goes
pub data ServesBoard (name : List ℕ) (address : Address) (count : ℕ) (old new : DoorTold) (entry now : DeskState)
    (status : ℕ) : Type 0 where
  -- the board couldn't be opened
  unopened : new ≡ old → EndsUnopened name entry now status → ServesBoard name address count old new entry now status
  -- memory ran out before any session began, and the board has what it had
  exhausted : (past : List Command) → AreOfBoard past → HasJobs name entry past → status ≡ OUT_OF_MEMORY
      → OpensInVain address count old new ⊥
      → Ends name past [] past entry now [] OUT_OF_MEMORY status
      → ServesBoard name address count old new entry now status
  -- nobody could be listened to, or a link didn't come, which is said
  unlistened : (past : List Command) → AreOfBoard past → HasJobs name entry past
      → OpensInVain address count old new (Unit {0})
      → Ends name past [] past entry now cannot_listen UNHIRED status
      → ServesBoard name address count old new entry now status
  -- sessions were served
  served : (past : List Command) → AreOfBoard past → HasJobs name entry past
      → ServesOver name address count old new entry now past status
      → ServesBoard name address count old new entry now status

-- a message closed the command, or memory ran out for it and nothing happened
pub data SaysOrStops {K : Type 0} (state : K → DeskState) (message : List ℕ) (wanted : ℕ) (old now : K)
    (status : ℕ) : Type 0 where
  was_stopped : status ≡ OUT_OF_MEMORY → now ≡ old → SaysOrStops state message wanted old now status
  was_said : Says message (state old) (state now) → ClosesWith (state old).shown message wanted (state now).shown status
      → SaysOrStops state message wanted old now status

-- its statuses
pub data IsServiceStatus (status : ℕ) : Type 0 where
  is_served : status ≡ SUCCEEDED → IsServiceStatus status
  is_failed : status ≡ DISK_FAILED → IsServiceStatus status
  is_no_board : status ≡ NO_BOOK → IsServiceStatus status
  is_unsaid : status ≡ UNSAID → IsServiceStatus status
  is_unlistened : status ≡ UNHIRED → IsServiceStatus status
  is_out : status ≡ OUT_OF_MEMORY → IsServiceStatus status
  is_full : status ≡ FULL → IsServiceStatus status

-- no count falls and nobody is asked for a stop; the disk failed, a text couldn't be said and nobody could be listened
-- to only where the count of such faults rose
pub record HasServiceCauses (old new : DeskState) (door_then door_now status : ℕ) : Type 0 where
  pub desk : HasCauses old new status
  pub door : door_then ≤ door_now
  pub unlistened : status ≡ UNHIRED → Rises door_then door_now
