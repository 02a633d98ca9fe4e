-- What conductors leave.
use Rattle.std.specs.Prelude.{◌≡◌, ◌<◌, ℕ, List, length, slice_get, slice_index_or, Option, Some, None}
use Rattle.tf_desk.specs.State.{DeskState}
use Rattle.tf_values.specs.declared.value.Val.{Val}
use Rattle.tf_board.specs.Board.{AreOfBoard}
use Rattle.tf_shared_board.specs.Shared.{SharedValue}
use Rattle.tf_shared_board.specs.declared.calls.BoardHalt.{BoardHalt}
use Rattle.tf_conductor.specs.Conducting.{IsConducting, made_since}
use Rattle.tf_conductor.specs.Rounds.{AllClaimed, EndsConducting, GiveSame}
use Rattle.tf_conductor.specs.declared.runners.Ran.{Ran}

-- of a shared board, that these conductors worked on it: it was conducted, its commands are legal, each conductor made
-- just its own calls, all jobs that were open have a claim unless it is halted, and the runners are back
pub record IsConductedBy {K P : Type 0} (state : K → DeskState) (gives : P → Val → Ran → Type 0)
    (did : P → Option (List (Val × Ran)))
    (owners : List (List ℕ)) (old new : SharedValue K) (halt : Option BoardHalt) (before after : List P) : Type 0 where
  pub board : IsConducting state (record { begun = old; now = new; owners = owners })
  pub legal : AreOfBoard new.board.past
  pub halt_is : halt ≡ new.halt
  pub each : (i : ℕ) (d : P) (owner : List ℕ) → slice_get owners i ≡ Some owner
      → EndsConducting (gives (slice_index_or before i d)) (did (slice_index_or before i d)) old.board.past i owner
      (did (slice_index_or after i d)) (made_since old new) halt
  pub all : halt ≡ None → AllClaimed old.board.past (made_since old new)
  pub count : length after ≡ length before
  pub same : (i : ℕ) (d : P) → i < length before
      → GiveSame (gives (slice_index_or before i d)) (gives (slice_index_or after i d))
