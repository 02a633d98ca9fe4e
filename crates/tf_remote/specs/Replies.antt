-- The reply to a request: a frame that tells that its order runs, and a frame that tells the outcome.
use Rattle.std.specs.Prelude.{◌≡◌, ℕ, List, ◌++◌, length, ◌⊎◌}
use Rattle.tf_states.specs.declared.record.Failure.TheVariants as failure
use Rattle.tf_actions.specs.declared.orders.Order.{Order}
use Rattle.tf_actions.specs.declared.outcomes.Outcome.{Outcome}
use Rattle.tf_actions.specs.declared.outcomes.Outcome.TheVariants as outcome
use Rattle.tf_actions.specs.Gives.{Gives}
use Rattle.tf_wire.specs.Grammar.{AreResponse}
use Rattle.tf_wire.specs.Stream.{IsFrame, framed}
use Rattle.tf_wire.specs.declared.messages.Response.TheVariants as response
use Rattle.tf_workers.specs.Session.{told}
use Rattle.tf_ports.specs.Ports.{SeenLink}
use Rattle.tf_remote.specs.Received.{Brings, IsGone, IsBadLength, IsPart}

-- the frame tells that the order of that id runs
pub record TellsRunning (id : ℕ) (frame : List ℕ) : Type 0 where
  pub is_frame : IsFrame frame
  pub reads : AreResponse frame (response.Running id)

-- the frame tells this outcome for that id, and the order may have it
pub record TellsOutcome (order : Order) (id : ℕ) (came : Outcome) (frame : List ℕ) : Type 0 where
  pub is_frame : IsFrame frame
  pub reads : AreResponse frame (told id came)
  pub allowed : Gives order came

-- the frame tells some outcome for that id that the order may have
pub record TellsAny (order : Order) (id : ℕ) (frame : List ℕ) : Type 0 where
  pub came : Outcome
  pub tells : TellsOutcome order id came frame

-- a whole frame that isn't one of the wanted ones
pub record IsOtherFrame (wanted : List ℕ → Type 0) (bytes : List ℕ) : Type 0 where
  pub frame : List ℕ
  pub is_frame : IsFrame frame
  pub is : bytes ≡ framed frame
  pub other : ¬ (wanted frame)

-- a reply frame is refused: it has a length that no frame has, or it isn't one of the wanted ones
abbrev pub IsFrameRefused : (List ℕ → Type 0) → List ℕ → Type 0
IsFrameRefused wanted bytes = IsBadLength bytes ⊎ IsOtherFrame wanted bytes

-- the first frame of a reply, and something behind it
pub record RunsAndThen (id : ℕ) (next : ℕ → List ℕ → Type 0) (bytes : List ℕ) : Type 0 where
  pub first : List ℕ
  pub behind : List ℕ
  pub running : TellsRunning id first
  pub is : bytes ≡ framed first ++ behind
  pub goes_on : next (length (framed first)) behind

-- a frame that tells the outcome
pub record IsOutcomeFrame (order : Order) (id : ℕ) (came : Outcome) (bytes : List ℕ) : Type 0 where
  pub frame : List ℕ
  pub tells : TellsOutcome order id came frame
  pub is : bytes ≡ framed frame

-- the whole reply
abbrev pub IsReply : Order → ℕ → Outcome → List ℕ → Type 0
IsReply order id came bytes = RunsAndThen id (λ before behind. IsOutcomeFrame order id came behind) bytes

-- a reply of which a frame is refused, behind so many bytes: the first frame or the second
abbrev pub IsBadReply : Order → ℕ → ℕ → List ℕ → Type 0
IsBadReply order id count bytes =
    ((count ≡ 0) × IsFrameRefused (TellsRunning id) bytes)
    ⊎ RunsAndThen id (λ before behind. (count ≡ before) × IsFrameRefused (TellsAny order id) behind) bytes

-- a reply that isn't whole: it stops before the end of its first frame or of its second
abbrev pub IsReplyCut : ℕ → List ℕ → Type 0
IsReplyCut id bytes = IsPart bytes ⊎ RunsAndThen id (λ before behind. IsPart behind) bytes

-- What the bytes of a reply are taken for. Lost: they are cut short, and the link is gone. Bad reply: a frame is
-- refused. Every other outcome is that of the whole reply.
abbrev pub IsTakenFor : Order → ℕ → Type 0 → List ℕ → Outcome → Type 0
IsTakenFor order id is_gone bytes (outcome.Failed failure.Lost) = IsReplyCut id bytes × is_gone
IsTakenFor order id is_gone bytes (outcome.Failed (failure.BadReply count)) = IsBadReply order id count bytes
IsTakenFor order id is_gone bytes came = IsReply order id came bytes

-- ---- while a reply is received

-- the first frame of a reply, and how many bytes it has in the stream
pub record IsFirstFrame (id count : ℕ) (bytes : List ℕ) : Type 0 where
  pub frame : List ℕ
  pub running : TellsRunning id frame
  pub is : bytes ≡ framed frame
  pub is_count : count ≡ length bytes

-- some bytes came, which are taken for this outcome
pub record TakesFor (order : Order) (id : ℕ) (before now : SeenLink) (came : Outcome) : Type 0 where
  pub bytes : List ℕ
  pub brings : Brings bytes before now
  pub taken_for : IsTakenFor order id (IsGone before now) bytes came
