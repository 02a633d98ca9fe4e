-- A shared board that conductors hand round, and what its type keeps. Lists of commands have the newest first, lists of
-- calls the oldest.
use Rattle.std.specs.Prelude.{◌≡◌, ℕ, Bool, true, false, IsTrue, List, [], ◌++◌, length, drop, Option, Some, None, IfSome, IsSome}
use Rattle.std.specs.List.{AllByRecursion}
use Rattle.tf_desk.specs.State.{DeskState, GoesOn, MayLeave}
use Rattle.tf_board.specs.Board.{LeavesHeld, board_in}
use Rattle.tf_board.specs.Does.{LeavesRecorded}
use Rattle.tf_board.specs.Seeking.{free_job, id_at, details_at}
use Rattle.tf_shared_board.specs.Shared.{followed_by, made_command, SharedValue, HasCause, IsMade}
use Rattle.tf_shared_board.specs.declared.calls.BoardHalt.{BoardHalt}
use Rattle.tf_shared_board.specs.declared.calls.Made.{Made}
use Rattle.tf_conductor.specs.Rounds.{IsBy, IsConductors, IsNobodys, HoldsKept, LeavesSome, LeavesTried, claim_by, end_call}
use Rattle.tf_conductor.specs.declared.runners.Ran.{Ran}
use Rattle.tf_conductor.specs.declared.turns.Next.{Next}
use Rattle.tf_conductor.specs.declared.turns.Next.TheVariants as next

-- ---- what conductors hand round

-- the calls that were made since
abbrev pub made_since : {K : Type 0} → SharedValue K → SharedValue K → List Made
made_since old new = drop (length old.made) new.made

-- the shared board when the call began, and as it is now; and the owners
pub record ConductingValue (K : Type 0) : Type 0 where
  pub begun : SharedValue K
  pub now : SharedValue K
  pub owners : List (List ℕ)

-- what conductors may never change
abbrev pub conducting_origin : {K : Type 0} → ConductingValue K → SharedValue K × List (List ℕ)
conducting_origin c = (c.begun, c.owners)

module _ {K : Type 0} (state : K → DeskState) where
  -- no call was made; it may be halted now, for its cause; a crash leaves the commands, or one call of this kind more
  -- where the disk failed
  pub record MakesNoCall (kind : Made → Type 0) (old new : SharedValue K) : Type 0 where
    pub start : new.start ≡ old.start
    pub made : new.made ≡ old.made
    pub past : new.board.past ≡ old.board.past
    pub goes : GoesOn (LeavesTried kind old.board.past (state old.board.journal.desk)) (state old.board.journal.desk)
        (state new.board.journal.desk)
    pub leaves : IsTrue (state old.board.journal.desk).tells → LeavesHeld old.board.past (state old.board.journal.desk)
        → (image : List ℕ) → MayLeave (state new.board.journal.desk) image
        → HoldsKept kind old.board.past new.halt (board_in image)
    pub stays : (halt : BoardHalt) → old.halt ≡ Some halt → new.halt ≡ Some halt
    pub still : (halt : BoardHalt) → old.halt ≡ Some halt → new.board ≡ old.board
    pub cause : old.halt ≡ None → IfSome new.halt (HasCause state old.board new.board)

  -- since the call began: the commands are those from then followed by those of the calls, each of which is a
  -- conductor's, by its owner; no count fell, and the same file is picked; a crash left the commands of the first
  -- calls, or of one more, and leaves those of all, or of one more where the disk failed; a halt that didn't stand then
  -- has its cause since then, and one that stood then stands, with no call
  pub record IsConducting (c : ConductingValue K) : Type 0 where
    pub made : c.now.made ≡ c.begun.made ++ made_since c.begun c.now
    pub list : c.now.board.past ≡ followed_by c.begun.board.past (made_since c.begun c.now)
    pub by : AllByRecursion (IsConductors c.owners) (made_since c.begun c.now)
    pub start : c.now.start ≡ c.begun.start
    pub goes : GoesOn
        (LeavesSome (IsConductors c.owners) c.begun.board.past (made_since c.begun c.now)
        (state c.begun.board.journal.desk))
        (state c.begun.board.journal.desk) (state c.now.board.journal.desk)
    pub leaves : IsTrue (state c.begun.board.journal.desk).tells
        → LeavesHeld c.begun.board.past (state c.begun.board.journal.desk)
        → (image : List ℕ) → MayLeave (state c.now.board.journal.desk) image
        → HoldsKept (IsConductors c.owners) c.now.board.past c.now.halt (board_in image)
    pub cause : c.begun.halt ≡ None → IfSome c.now.halt (HasCause state c.begun.board c.now.board)
    pub stays : (halt : BoardHalt) → c.begun.halt ≡ Some halt → (c.now.halt ≡ Some halt)
        × (made_since c.begun c.now ≡ [])

  -- ---- a turn

  -- a turn to claim a job for an owner: there is none, the board is halted and no call was made, or the first free job
  -- was claimed
  abbrev pub Claims : ℕ → List ℕ → List ℕ → SharedValue K → SharedValue K → Next → Type 0
  Claims number owner skip old new next.Stop = (new ≡ old) × (old.halt ≡ None) × (free_job old.board.past skip ≡ None)
  Claims number owner skip old new next.Halt = MakesNoCall (IsBy number owner) old new × IsSome new.halt
  Claims number owner skip old new (next.Run claim) =
      IsMade state (claim_by number owner claim.job claim.id) old new
      × GoesOn (LeavesRecorded old.board.past (made_command (claim_by number owner claim.job claim.id))
      (state old.board.journal.desk))
      (state old.board.journal.desk) (state new.board.journal.desk)
      × (free_job old.board.past skip ≡ Some claim.job)
      × (id_at old.board.past claim.job ≡ Some claim.id)
      × (details_at old.board.past claim.job ≡ Some claim.details)

  -- the same of what conductors hand round
  pub record HasClaimed (number : ℕ) (owner skip : List ℕ) (old new : ConductingValue K) (result : Next) : Type 0 where
    pub same : conducting_origin new ≡ conducting_origin old
    pub claims : Claims number owner skip old.now new.now result

  -- no call was made
  pub record MakesNone (old new : ConductingValue K) : Type 0 where
    pub same : conducting_origin new ≡ conducting_origin old
    pub none : MakesNoCall IsNobodys old.now new.now

  -- a turn to end a job for its owner: the end was made, or no call
  pub record EndsJob (number : ℕ) (owner id : List ℕ) (r : Ran) (old new : ConductingValue K)
      (made : Bool) : Type 0 where
    pub same : conducting_origin new ≡ conducting_origin old
    pub ended : IsTrue made → (job : ℕ) × IsMade state
        (record { number = number; job = job; call = end_call r id owner }) old.now new.now
    pub none : made ≡ false → MakesNoCall (IsBy number owner) old.now new.now

  -- a turn to end a job for its owner and to claim the next one: the end was made, and then what is done to claim; or
  -- no call
  abbrev pub EndsAndClaims : ℕ → List ℕ → List ℕ → Ran → List ℕ → ConductingValue K → ConductingValue K → Option Next
      → Type 0
  EndsAndClaims number owner id r skip old new None = EndsJob number owner id r old new false
  EndsAndClaims number owner id r skip old new (Some result) =
      (mid : ConductingValue K) × IsConducting mid × EndsJob number owner id r old mid true
      × HasClaimed number owner skip mid new result
