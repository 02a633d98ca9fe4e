-- What a service leaves.
use Rattle.std.specs.Prelude.{◌≡◌, ◌<◌, ℕ, List, length, slice_index_or, Option}
use Rattle.std.specs.List.{All}
use Rattle.tf_desk.specs.State.{DeskState}
use Rattle.tf_board.specs.Board.{AreOfBoard}
use Rattle.tf_shared_board.specs.Shared.{SharedValue}
use Rattle.tf_ports.specs.Ports.{seen_link}
use Rattle.tf_ports.specs.Transcript.{Passed}
use Rattle.tf_board_service.specs.Serving.{IsServing, made_since}
use Rattle.tf_board_service.specs.Sessions.{HaltsWith, IsServed}
use Rattle.tf_board_service.specs.declared.sessions.Session.{Session}

-- of a shared board, that these links were served from it: its commands are legal, each session did just what its
-- requests asked, and where one is halted the board is
pub record AreServed {K L : Type 0} (state : K → DeskState) (left : L → Option (List ℕ)) (transcript : L → List Passed)
    (faults ends : L → ℕ)
    (old new : SharedValue K)
    (before after : List L) (sessions : List Session) : Type 0 where
  pub board : IsServing state (record { begun = old; now = new })
  pub legal : AreOfBoard new.board.past
  pub each : (i : ℕ) (d : L) (s : Session) → i < length before
      → IsServed i (length old.board.past) new.board.past (made_since old new)
      (seen_link left transcript faults ends (slice_index_or before i d))
      (seen_link left transcript faults ends (slice_index_or after i d)) (slice_index_or sessions i s)
  pub numbers : All (λ m. m.number < length before) (made_since old new)
  pub halted : HaltsWith new.halt sessions
  pub links : length after ≡ length before
  pub count : length sessions ≡ length before
