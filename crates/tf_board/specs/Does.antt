-- What a command on a board comes to: what is recorded, what is said, and the status. Lists of commands have the newest
-- first. What becomes of a command on a board. Lists of commands have the newest first.
use Rattle.std.specs.Prelude.{◌≡◌, ◌⊎◌, ◌<◌, ◌≤◌, ℕ, suc, ◌+◌, true, false, IsTrue, List, ◌∷◌, length, Option, Some, None, Result, Err, OnOk, IfErr, [], ◌++◌, codes, ◌≢◌}
use Rattle.tf_numbers.specs.Numbers.{Rises}
use Rattle.tf_desk.specs.Crash.{Pairs, ShowsPrefix}
use Rattle.tf_desk.specs.State.{DeskState, bytes_now, MayLeave, GoesOn, anything, OnDisk, Extends, IsUnasked}
use Rattle.tf_journal.specs.Format.{SIZE_LIMIT, Recovered}
use Rattle.tf_board.specs.Board.{BoardValue, AreOfBoard, board_in, Holds, LeavesHeld, command_bytes, id_text, jobs_of, place_of, id_of, posted, refuses_id, owner_of, listed, size_of, Finds, IsNoBoard, LeavesBoard, IsAsBeforeOrMade}
use Rattle.tf_board.specs.declared.commands.Command.{Command}
use Rattle.tf_board.specs.declared.commands.JobAction.{JobAction}
use Rattle.tf_board.specs.declared.faults.BoardFault.{BoardFault}
use Rattle.tf_board.specs.declared.rules.Refusal.{Refusal}
use Rattle.std.specs.List.{flat_map}
use Rattle.tf_report.specs.Closing.{disk_fault_text, book_full, ClosesWithOrStops, not_a_book}
use Rattle.tf_report.specs.Lines.{job_line, owner_text}
use Rattle.tf_board.specs.declared.calls.JobCall.{JobCall}
use Rattle.tf_board.specs.declared.calls.BoardRequest.{BoardRequest}
use Rattle.tf_board.specs.declared.board.Owner.{Owner}
use Rattle.tf_report.specs.declared.statuses.TheConstants.{SUCCEEDED, DISK_FAILED, OUT_OF_MEMORY, FULL, BOARD_REFUSED, NO_BOOK, UNSAID}
use Rattle.tf_journal.specs.Start.{Path, file_of, IsStart}
use Rattle.tf_board.specs.declared.commands.Command.TheVariants as command
use Rattle.tf_board.specs.declared.faults.BoardFault.TheVariants as fault
use Rattle.tf_board.specs.declared.rules.Refusal.TheVariants as refusal
use Rattle.tf_board.specs.declared.calls.JobCall.TheVariants as call
use Rattle.tf_board.specs.declared.calls.BoardRequest.TheVariants as request
use Rattle.tf_board.specs.declared.board.Owner.TheVariants as owned
use Rattle.tf_board.specs.declared.commands.JobAction.TheVariants as action

-- ---- what becomes of a board where a command is to be recorded
-- Lists of commands have the newest first.

-- ---- the board after a call

-- with a command more, which comes in front
abbrev pub with_command : {K : Type 0} → BoardValue K → K → Command → BoardValue K
with_command old desk added = record {
  past = added ∷ old.past;
  journal = record old.journal { desk = desk; size = old.journal.size + 5 + length (command_bytes added) };
}

-- with a fault of the disk kept, since which nothing is recorded
abbrev pub with_fault : {K : Type 0} → BoardValue K → K → BoardValue K
with_fault old desk = record old { journal = record old.journal { desk = desk; halted = true } }

-- the command has room in the journal
abbrev pub HasPlace : {K : Type 0} → BoardValue K → Command → Type 0
HasPlace old added = old.journal.size + 5 + length (command_bytes added) ≤ SIZE_LIMIT

-- ---- what a call that is to record a command does

-- the commands from before, or with this one more
abbrev pub HoldsMaybe : List Command → Command → Recovered → Type 0
HoldsMaybe past added found = Holds past found ⊎ Holds (added ∷ past) found

-- a crash inside leaves the commands from before, with the new one or without; the shown text stays
abbrev pub LeavesRecorded : List Command → Command → DeskState → Pairs
LeavesRecorded past added old image text = HoldsMaybe past added (board_in image) × (old.shown ≡ Some text)

-- the command was recorded: it may stand after those before it, there was room for it, the file has it now, and a crash
-- from now on leaves it
pub record IsRecorded {K : Type 0} (state : K → DeskState) (added : Command) (old new : BoardValue K) : Type 0 where
  pub now : new ≡ with_command old new.journal.desk added
  pub legal : AreOfBoard (added ∷ old.past)
  pub sound : old.journal.halted ≡ false
  pub fits : HasPlace old added
  pub file : IsTrue (state old.journal.desk).tells
      → Holds (added ∷ old.past) (board_in (bytes_now (state new.journal.desk)))
  pub lasts : IsTrue (state old.journal.desk).tells → LeavesHeld (added ∷ old.past) (state new.journal.desk)

-- the disk failed, and the count of its faults rose: nothing is recorded from now on; the command may stand after those
-- before it
pub record IsHalted {K : Type 0} (state : K → DeskState) (added : Command) (old new : BoardValue K) : Type 0 where
  pub now : new ≡ with_fault old new.journal.desk
  pub legal : AreOfBoard (added ∷ old.past)
  pub sound : old.journal.halted ≡ false
  pub fits : HasPlace old added
  pub rose : Rises (state old.journal.desk).disk_faults (state new.journal.desk).disk_faults

-- the command has no room, as the two numbers show; nothing changed
pub record HasNoPlace {K : Type 0} (size need : ℕ) (added : Command) (old new : BoardValue K) : Type 0 where
  pub now : new ≡ old
  pub sound : old.journal.halted ≡ false
  pub size_is : size ≡ old.journal.size
  pub need_is : need ≡ 5 + length (command_bytes added)
  pub over : SIZE_LIMIT < size + need

-- why a command wasn't recorded, and what changed
abbrev pub FailsToRecord : {K : Type 0} → (K → DeskState) → Command → BoardValue K → BoardValue K → BoardFault → Type 0
FailsToRecord state added old new fault.Disk = IsHalted state added old new
FailsToRecord state added old new (fault.Full size need) = HasNoPlace size need added old new
FailsToRecord state added old new fault.Halted = (old.journal.halted ≡ true) × (new ≡ old)
FailsToRecord state added old new fault.Memory = new ≡ old
FailsToRecord state added old new (fault.NoJob id) = ⊥
FailsToRecord state added old new (fault.Gone id) = ⊥
FailsToRecord state added old new (fault.Claimed owner) = ⊥
FailsToRecord state added old new (fault.NotOwner owner) = ⊥

-- A command that isn't refused was to be recorded, and was or wasn't. In any case only the board's file is written, and
-- a crash leaves the commands from before, with the new one or without.
pub record Records {A K : Type 0} (state : K → DeskState) (old new : BoardValue K) (added : Command)
    (result : Result A BoardFault) : Type 0 where
  pub recorded : OnOk result (IsRecorded state added old new)
  pub fails : IfErr result (λ why. FailsToRecord state added old new why)
  pub goes : GoesOn (LeavesRecorded old.past added (state old.journal.desk))
      (state old.journal.desk) (state new.journal.desk)
  pub leaves : IsTrue (state old.journal.desk).tells → old.journal.halted ≡ false → (image : List ℕ)
      → MayLeave (state new.journal.desk) image → HoldsMaybe old.past added (board_in image)

-- ---- what an owner does

-- the fault of a call that was refused for this reason, of the job of this id
abbrev pub fault_of : Refusal → List ℕ → BoardFault
fault_of refusal.NoJob id = fault.NoJob (id_text id)
fault_of refusal.Gone id = fault.Gone (id_text id)
fault_of (refusal.Claimed owner) id = fault.Claimed owner
fault_of (refusal.NotOwner owner) id = fault.NotOwner owner

-- the number at a place, of which the first has number 1
abbrev pub number_at : Option ℕ → ℕ
number_at None = 0
number_at (Some place) = suc place

-- the number of the job that an id names
abbrev pub number_of : List Command → List ℕ → ℕ
number_of past id = number_at (place_of (jobs_of past) id)

-- what an owner does with the job of an id, as it is recorded
abbrev pub applied : List Command → JobAction → List ℕ → List ℕ → Command
applied past action id owner = command.Apply action (number_of past id) owner

-- ---- one call

-- the number of the job that a call is about, after these commands: the next one, or that of the job that its id names
abbrev pub job_of : List Command → JobCall → ℕ
job_of past (call.Post name priority details) = posted past + 1
job_of past (call.Apply action id owner) = number_of past id

-- what a call records, of the job of this number
abbrev pub command_of : JobCall → ℕ → Command
command_of (call.Post name priority details) job = command.Post name priority details
command_of (call.Apply action id owner) job = command.Apply action job owner

-- what a call asks to record after these commands
abbrev pub asked_for : List Command → JobCall → Command
asked_for past call = command_of call (job_of past call)

-- why a call is refused after these commands; a job may always be posted
abbrev pub refuses_call : List Command → JobCall → Option Refusal
refuses_call past (call.Post name priority details) = None
refuses_call past (call.Apply action id owner) = refuses_id past action id owner

-- the id that a call names; a post names none
abbrev pub id_named : JobCall → List ℕ
id_named (call.Post name priority details) = []
id_named (call.Apply action id owner) = id

-- a call was refused for this reason, of the job of this id: this is answered, unless memory runs out, and nothing
-- changed
pub record IsRefusedFor {A K : Type 0} (why : Refusal) (id : List ℕ) (old new : BoardValue K)
    (result : Result A BoardFault) : Type 0 where
  pub now : new ≡ old
  pub answer : (result ≡ Err (fault_of why id)) ⊎ (result ≡ Err fault.Memory)

module _ {K : Type 0} (state : K → DeskState) where
  -- an owner was to do something with the job of an id: where that is refused, nothing changes; else it is recorded
  abbrev pub Acts : Option Refusal → BoardValue K → BoardValue K → JobAction → List ℕ → List ℕ
      → Result (Unit {0}) BoardFault → Type 0
  Acts (Some why) old new action id owner result = IsRefusedFor why id old new result
  Acts None old new action id owner result = Records state old new (applied old.past action id owner) result

-- ---- what a command on a board comes to: what it records, what it says and its status
-- Lists of commands have the newest first.

-- ---- texts

-- the message for a call that did nothing; none where memory ran out
unfoldable pub fault_text : BoardFault → List ℕ
fault_text (fault.NoJob id) = codes "taskflow: no job: " ++ id ++ 10 ∷ []
fault_text (fault.Gone id) = codes "taskflow: job gone: " ++ id ++ 10 ∷ []
fault_text (fault.Claimed owner) = codes "taskflow: claimed by " ++ owner ++ 10 ∷ []
fault_text (fault.NotOwner owner) = codes "taskflow: not the owner: " ++ owner_text owner ++ 10 ∷ []
fault_text (fault.Full size need) = book_full size need
fault_text fault.Disk = disk_fault_text
fault_text fault.Halted = []
fault_text fault.Memory = []

-- and its status
abbrev pub fault_status : BoardFault → ℕ
fault_status (fault.NoJob id) = BOARD_REFUSED
fault_status (fault.Gone id) = BOARD_REFUSED
fault_status (fault.Claimed owner) = BOARD_REFUSED
fault_status (fault.NotOwner owner) = BOARD_REFUSED
fault_status (fault.Full size need) = FULL
fault_status fault.Disk = DISK_FAILED
fault_status fault.Halted = OUT_OF_MEMORY
fault_status fault.Memory = OUT_OF_MEMORY

-- the message for a command that is refused for this reason, of the job of this id
abbrev pub refusal_text : Refusal → List ℕ → List ℕ
refusal_text why id = fault_text (fault_of why id)

-- what is said of a job that was posted
unfoldable pub posted_text : List ℕ → List ℕ
posted_text id = codes "posted " ++ id_text id ++ 10 ∷ []

-- what is said of what an owner did with a job
unfoldable pub applied_text : JobAction → List ℕ → List ℕ → List ℕ
applied_text action.Claim id owner = codes "claimed " ++ id_text id ++ 32 ∷ owner ++ 10 ∷ []
applied_text action.Abandon id owner = codes "abandoned " ++ id_text id ++ 10 ∷ []
applied_text action.Consume id owner = codes "consumed " ++ id_text id ++ 10 ∷ []
applied_text action.Trash id owner = codes "trashed " ++ id_text id ++ 10 ∷ []

-- what is said of a call that was made about the job of this number
abbrev pub call_text : JobCall → ℕ → List ℕ
call_text (call.Post name priority details) job = posted_text (id_of job name)
call_text (call.Apply action id owner) job = applied_text action id owner

-- what is said of who has a job
unfoldable pub kept_text : Option (List ℕ) → List ℕ
kept_text owner = codes "owner " ++ owner_text owner ++ 10 ∷ []

-- ---- answers

-- the command that is recorded, if one is, what is said then, and the status
pub record Answer : Type 0 where
  pub added : List Command
  pub text : List ℕ
  pub status : ℕ

-- nothing is recorded, and this is said
abbrev pub answers : List ℕ → ℕ → Answer
answers text status = record { added = []; text = text; status = status }

-- this is recorded, and then this is said
abbrev pub adds : Command → List ℕ → Answer
adds new text = record { added = new ∷ []; text = text; status = SUCCEEDED }

-- what an owner does with a job, where it is refused for this reason or isn't
abbrev pub acts : Option Refusal → List Command → JobAction → List ℕ → List ℕ → Answer
acts None past action id owner = adds (applied past action id owner) (applied_text action id owner)
acts (Some why) past action id owner = answers (refusal_text why id) BOARD_REFUSED

-- who has the job of an id
abbrev pub tells_owner : Owner → List ℕ → Answer
tells_owner owned.NoJob id = answers (refusal_text refusal.NoJob id) BOARD_REFUSED
tells_owner owned.Gone id = answers (refusal_text refusal.Gone id) BOARD_REFUSED
tells_owner owned.Free id = answers (kept_text None) SUCCEEDED
tells_owner (owned.Of name) id = answers (kept_text (Some name)) SUCCEEDED

-- what a request comes to on a board of these commands
abbrev pub answer_of : BoardRequest → List Command → Answer
answer_of (request.Call (call.Post name priority details)) past =
    adds (command.Post name priority details) (posted_text (id_of (posted past + 1) name))
answer_of (request.Call (call.Apply action id owner)) past = acts (refuses_id past action id owner) past action id owner
answer_of (request.Owner id) past = tells_owner (owner_of past id) id
answer_of request.List past = answers (flat_map job_line (listed past)) SUCCEEDED

-- ---- what the file has

-- these commands, or the pending one too
abbrev pub HoldsEither : (pending after : List Command) → Recovered → Type 0
HoldsEither pending after found = Holds after found ⊎ Holds (pending ++ after) found

-- a crash since the call's start leaves the commands from before and nothing said; or those from after, perhaps the
-- pending one with them, and a prefix of the message shown
abbrev pub LeavesCommand : (past pending after : List Command) → DeskState → List ℕ → Pairs
LeavesCommand past pending after entry message image text =
    LeavesBoard past entry image text
    ⊎ (HoldsEither pending after (board_in image) × ShowsPrefix entry.shown message (Some text))

-- what is promised of the file and of a crash, where the desk tells its content: the file has the commands from after,
-- or the pending one too; other files stay
pub record Lasts (name : List ℕ) (past pending after : List Command) (entry now : DeskState) (message : List ℕ)
    : Type 0 where
  pub file : HoldsEither pending after (board_in (file_of now name))
  pub others : (other : List ℕ) → other ≢ name → now.content.files other ≡ entry.content.files other
  pub crash : (moment : ℕ) → IsStart name entry now moment → (image text : List ℕ) → now.crashes moment image text
      → LeavesCommand past pending after entry message image text

-- no command is in it that wasn't: it is as it was, or it was unborn and no command is in it; a crash leaves such a
-- file, and a prefix of the message shown
pub record StaysUnmade (name : List ℕ) (entry now : DeskState) (message : List ℕ) : Type 0 where
  pub file : IsAsBeforeOrMade (file_of entry name) (file_of now name)
  pub others : (other : List ℕ) → other ≢ name → now.content.files other ≡ entry.content.files other
  pub crash : (moment : ℕ) → IsStart name entry now moment → (image text : List ℕ) → now.crashes moment image text
      → IsAsBeforeOrMade (file_of entry name) image × ShowsPrefix entry.shown message (Some text)

-- on the way: a crash since the call's start leaves the commands from before, or those from after, perhaps the pending
-- one with them; nothing more was shown
abbrev pub LeavesUnsaid : (past pending after : List Command) → DeskState → Pairs
LeavesUnsaid past pending after entry image text =
    LeavesBoard past entry image text ⊎ (HoldsEither pending after (board_in image) × (entry.shown ≡ Some text))

-- what is left is to say how it went: the file has the commands from after, or the pending one too
pub record Reached (name : List ℕ) (past pending after : List Command) (entry now : DeskState) : Type 0 where
  pub on_disk : OnDisk anything entry now
  pub file : IsTrue entry.tells → HoldsEither pending after (board_in (file_of now name))
  pub path : IsTrue entry.tells
      → Path name entry now (LeavesUnsaid past pending after entry)
      (λ image. HoldsEither pending after (board_in image))

-- the next record would make the board longer than its limit
pub record IsBoardFull (past : List Command) (added : List Command) (size need : ℕ) : Type 0 where
  pub new : Command
  pub is_added : added ≡ new ∷ []
  pub size_is : size ≡ size_of past
  pub need_is : need ≡ 5 + length (command_bytes new)
  pub over : SIZE_LIMIT < size + need

-- ---- how a command goes

-- the file has these commands, or it is unborn and there are none, where the desk tells it
abbrev pub HasJobs : List ℕ → DeskState → List Command → Type 0
HasJobs name entry past = IsTrue entry.tells → Finds past (board_in (file_of entry name))

-- a command ends with this message and this status, and the file has the commands from after
pub record Ends (name : List ℕ) (past pending after : List Command) (entry now : DeskState) (message : List ℕ)
    (wanted status : ℕ) : Type 0 where
  pub closes : ClosesWithOrStops entry.shown message wanted now.shown status
  pub lasts : IsTrue entry.tells → Lasts name past pending after entry now message

-- a command ends with this message and this status, and its file couldn't be opened
pub record EndsUnmade (name : List ℕ) (entry now : DeskState) (message : List ℕ) (wanted status : ℕ) : Type 0 where
  pub closes : ClosesWithOrStops entry.shown message wanted now.shown status
  pub stays : IsTrue entry.tells → StaysUnmade name entry now message

-- the ways that a command ends whose board couldn't be opened: memory ran out, the disk failed, or the file is no board
-- and isn't changed
pub data EndsUnopened (name : List ℕ) (entry now : DeskState) (status : ℕ) : Type 0 where
  without_memory : status ≡ OUT_OF_MEMORY → EndsUnmade name entry now [] OUT_OF_MEMORY status
      → EndsUnopened name entry now status
  without_disk : EndsUnmade name entry now disk_fault_text DISK_FAILED status → EndsUnopened name entry now status
  no_board : (offset : ℕ) (byte : Option ℕ)
      → (IsTrue entry.tells → IsNoBoard (board_in (file_of entry name)) offset byte)
      → (IsTrue entry.tells → file_of now name ≡ file_of entry name)
      → EndsUnmade name entry now (not_a_book offset byte) NO_BOOK status → EndsUnopened name entry now status

-- the ways that a command on a board goes
pub data Does (asked : BoardRequest) (name : List ℕ) (entry now : DeskState) (status : ℕ) : Type 0 where
  -- the board couldn't be opened
  unopened : EndsUnopened name entry now status → Does asked name entry now status
  -- it did what it comes to on the board's commands; a board may hold these, with what it recorded
  answered : (past : List Command) → AreOfBoard past → AreOfBoard ((answer_of asked past).added ++ past)
      → HasJobs name entry past
      → Ends name past [] ((answer_of asked past).added ++ past) entry now
      (answer_of asked past).text (answer_of asked past).status status
      → Does asked name entry now status
  -- its command couldn't be recorded: memory ran out, the disk failed, and then it may be in the file, as one that a
  -- board may hold after the others, or the board is full
  unrecorded : (past : List Command) → AreOfBoard past → HasJobs name entry past → status ≡ OUT_OF_MEMORY
      → Ends name past [] past entry now [] OUT_OF_MEMORY status → Does asked name entry now status
  disk_failed : (past : List Command) → AreOfBoard past → AreOfBoard ((answer_of asked past).added ++ past)
      → HasJobs name entry past
      → Ends name past (answer_of asked past).added past entry now disk_fault_text DISK_FAILED status
      → Does asked name entry now status
  filled : (past : List Command) (size need : ℕ) → AreOfBoard past → HasJobs name entry past
      → IsBoardFull past (answer_of asked past).added size need
      → Ends name past [] past entry now (book_full size need) FULL status → Does asked name entry now status

-- ---- when a status comes

-- nobody is asked for a stop, no count falls, and the disk failed, and a text couldn't be said, only where the count of
-- such faults rose
pub record HasCauses (old new : DeskState) (status : ℕ) : Type 0 where
  pub extends : Extends anything old new
  pub unasked : IsUnasked old new
  pub failed : status ≡ DISK_FAILED → Rises old.disk_faults new.disk_faults
  pub unsaid : status ≡ UNSAID → Rises old.out_faults new.out_faults

-- the last was said, or nothing: the disk didn't fail meanwhile
pub record Concludes (old new : DeskState) (status : ℕ) : Type 0 where
  pub extends : Extends anything old new
  pub unasked : IsUnasked old new
  pub disk_faults : new.disk_faults ≡ old.disk_faults
  pub unsaid : status ≡ UNSAID → Rises old.out_faults new.out_faults

-- ---- completeness

-- a file is a board
abbrev pub IsBoard : Recovered → Type 0
IsBoard found = (offset : ℕ) (byte : Option ℕ) → ¬ (IsNoBoard found offset byte)

-- it is a board on which the command isn't refused
abbrev pub IsAllowed : BoardRequest → Recovered → Type 0
IsAllowed asked found =
    IsBoard found ×
    ((past : List Command) → AreOfBoard past → Finds past found → (answer_of asked past).status ≡ SUCCEEDED)

-- where nothing failed, the command is done, or memory runs out, or its record would make the board longer than its
-- limit
abbrev pub IsBoardComplete : ℕ → Type 0
IsBoardComplete status = (status ≡ SUCCEEDED) ⊎ (status ≡ OUT_OF_MEMORY) ⊎ (status ≡ FULL)

-- the statuses of a command on a board
pub data IsBoardStatus (status : ℕ) : Type 0 where
  is_done : status ≡ SUCCEEDED → IsBoardStatus status
  is_failed : status ≡ DISK_FAILED → IsBoardStatus status
  is_no_board : status ≡ NO_BOOK → IsBoardStatus status
  is_unsaid : status ≡ UNSAID → IsBoardStatus status
  is_out : status ≡ OUT_OF_MEMORY → IsBoardStatus status
  is_full : status ≡ FULL → IsBoardStatus status
  is_refused : status ≡ BOARD_REFUSED → IsBoardStatus status
