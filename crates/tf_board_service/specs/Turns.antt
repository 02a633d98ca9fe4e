-- What one turn adds to the calls, and a session while it goes on. Lists of commands have the newest first, lists of
-- calls the oldest.
use Rattle.std.specs.Prelude.{◌≡◌, ◌≢◌, ◌⊎◌, ℕ, List, [], ◌∷◌, ◌++◌, length, Option, Some, None}
use Rattle.std.specs.List.{AllByRecursion}
use Rattle.tf_numbers.specs.Numbers.{Rises}
use Rattle.tf_ports.specs.Ports.{SeenLink}
use Rattle.tf_sessions.specs.Talks.{Stands, SendsAll, SendsPart}
use Rattle.tf_sessions.specs.declared.incoming.Incoming.{Incoming}
use Rattle.tf_board.specs.declared.commands.Command.{Command}
use Rattle.tf_shared_board.specs.Shared.{followed_by}
use Rattle.tf_shared_board.specs.declared.calls.Made.{Made}
use Rattle.tf_board_service.specs.Sessions.{call_made, Exchange, MadeBy, NeverFall, as_list, points_of, replies, reply_frame, reply_of, AreRead, IsServed, board_request_in}
use Rattle.tf_board_service.specs.declared.replies.BoardReply.{BoardReply}
use Rattle.tf_board.specs.declared.calls.BoardRequest.{BoardRequest}
use Rattle.tf_board_service.specs.declared.sessions.SessionEnd.{SessionEnd}
use Rattle.tf_board_service.specs.declared.sessions.SessionEnd.TheVariants as end

-- ---- one turn

-- calls of others were made
pub record HasWaited (number : ℕ) (old mid : List Made) : Type 0 where
  pub others : List Made
  pub is : mid ≡ old ++ others
  pub apart : AllByRecursion (λ m. m.number ≢ number) others

-- others' calls were made; then a request was answered from the commands that there were, and the call that it makes
-- was made
pub record HasReplied (past : List Command) (number : ℕ) (asked : BoardRequest) (old new : List Made) (point : ℕ)
    (reply : BoardReply) : Type 0 where
  pub mid : List Made
  pub waited : HasWaited number old mid
  pub point_is : point ≡ length (followed_by past mid)
  pub reply_is : reply ≡ reply_of (followed_by past mid) asked
  pub is : new ≡ mid ++ as_list (call_made number (followed_by past mid) asked)

-- others' calls were made, and perhaps the call that the request makes, but it has no reply
pub record HasStopped (past : List Command) (number : ℕ) (asked : BoardRequest) (old new : List Made) : Type 0 where
  pub mid : List Made
  pub waited : HasWaited number old mid
  pub mine : List Made
  pub perhaps : (mine ≡ []) ⊎ (mine ≡ as_list (call_made number (followed_by past mid) asked))
  pub is : new ≡ mid ++ mine

-- what is known after a turn to answer a request
abbrev pub KnowsTurn : List Command → ℕ → BoardRequest → List Made → List Made → Option (ℕ × BoardReply) → Type 0
KnowsTurn past number asked old new None = HasStopped past number asked old new
KnowsTurn past number asked old new (Some r) = HasReplied past number asked old new r.0 r.1

-- ---- one frame

-- a frame was answered: a turn was taken for the request that it spells, and its point was kept
pub record HasTaken (number : ℕ) (past : List Command) (frame : List ℕ) (old new : List Made)
    (old_points new_points : List ℕ) (reply : BoardReply) : Type 0 where
  pub asked : BoardRequest
  pub read : board_request_in frame ≡ Some asked
  pub point : ℕ
  pub turn : HasReplied past number asked old new point reply
  pub points : new_points ≡ old_points ++ point ∷ []

-- its reply was sent
pub record AnswersFrame (number : ℕ) (past : List Command) (frame : List ℕ) (old new : List Made)
    (old_points new_points : List ℕ) (before now : SeenLink) : Type 0 where
  pub reply : BoardReply
  pub taken : HasTaken number past frame old new old_points new_points reply
  pub says : SendsAll (reply_frame reply) before now

-- the link couldn't send it
pub record LosesReply (number : ℕ) (past : List Command) (frame : List ℕ) (old new : List Made)
    (old_points new_points : List ℕ) (before now : SeenLink) : Type 0 where
  pub reply : BoardReply
  pub taken : HasTaken number past frame old new old_points new_points reply
  pub part : SendsPart (reply_frame reply) before now
  pub rose : Rises before.faults now.faults

-- nothing was said, and no point was kept
pub record SaysNothing (old_points new_points : List ℕ) (before now : SeenLink) : Type 0 where
  pub points : new_points ≡ old_points
  pub link : now ≡ before

-- it has no reply, since the board is halted or memory ran out
pub record HasNoReply (number : ℕ) (past : List Command) (frame : List ℕ) (old new : List Made) : Type 0 where
  pub asked : BoardRequest
  pub read : board_request_in frame ≡ Some asked
  pub turn : HasStopped past number asked old new

-- why a frame wasn't answered: it spells no request, the link couldn't send, the board is halted, or memory ran out
abbrev pub StopsFrame : ℕ → List Command → List ℕ → ℕ → List Made → List Made → List ℕ → List ℕ → SeenLink → SeenLink
    → SessionEnd → Type 0
StopsFrame number past frame place old new old_points new_points before now end.Ended = ⊥
StopsFrame number past frame place old new old_points new_points before now end.Lost =
    LosesReply number past frame old new old_points new_points before now
StopsFrame number past frame place old new old_points new_points before now (end.Bad at) =
    SaysNothing old_points new_points before now × (new ≡ old) × (board_request_in frame ≡ None) × (at ≡ place)
StopsFrame number past frame place old new old_points new_points before now end.Halted =
    SaysNothing old_points new_points before now × ((new ≡ old) ⊎ HasNoReply number past frame old new)

-- ---- a session while it goes on

-- these frames were read as the requests of these exchanges, each of which was answered, and these calls were made
-- besides
pub record SoFar (number : ℕ) (past : List Command) (calls : List Made) (points : List ℕ) (frames : List (List ℕ))
    (exchanges : List Exchange) (more : List Made) : Type 0 where
  pub read : AreRead frames exchanges
  pub points_are : points ≡ points_of exchanges
  pub rising : NeverFall number (followed_by past calls) (length past) exchanges
  pub made : MadeBy number (followed_by past calls) (length past) calls exchanges more

-- every frame that was taken was answered, and the next one stands at its place
pub record HasAnsweredAll (number : ℕ) (past : List Command) (calls : List Made) (before now : SeenLink)
    (points : List ℕ) (incoming : Incoming) : Type 0 where
  pub taken : List (List ℕ)
  pub exchanges : List Exchange
  pub so_far : SoFar number past calls points taken exchanges []
  pub stands : Stands before now taken (replies (followed_by past calls) exchanges) incoming

-- the session is over, and ended so
abbrev pub IsOver : ℕ → List Command → List Made → SeenLink → SeenLink → List ℕ → SessionEnd → Type 0
IsOver number past calls before now points how =
    IsServed number (length past) (followed_by past calls) calls before now (record { end = how; points = points })
