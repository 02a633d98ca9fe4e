-- What was done on a board stands.
use Rattle.std.proofs.Common.{◌≡◌, ◌⊎◌, ℕ, List, [], ◌∷◌, ◌++◌, refl, inl, inr, arith}
use Rattle.tf_desk.specs.State.{DeskState}
use Rattle.tf_ports.specs.declared.crews.Want.{Want}
use Rattle.tf_actions.specs.declared.orders.Order.{Order}
use Rattle.tf_actions.specs.declared.outcomes.Outcome.{Outcome}
use Rattle.tf_journal.specs.Start.{file_of}
use Rattle.tf_board.specs.declared.calls.BoardRequest.{BoardRequest}
use Rattle.tf_board.specs.Does.{answer_of, Does}
use Rattle.tf_board.specs.Does as board
use Rattle.tf_board.specs.declared.commands.Command.{Command}
use Rattle.tf_lifetime.specs.Life.{Call, Life, IsBoardOf, IsDone}
use Rattle.tf_lifetime.proofs.ClosingLemmas.{never_closes, said_whole, either_one}
use Rattle.tf_lifetime.proofs.OwnerLemmas.{life_adds_legally}

module _ {K : Type 0} (state : K → DeskState) (gives : Want → Order → Outcome → Type 0) (name last : List ℕ) where
  stands_on : (mid : List ℕ) → Life state gives name mid last → (added past : List Command) → IsBoardOf (added ++ past) mid
      → (added ≡ []) ⊎ ((newer : List Command) × IsBoardOf (newer ++ (added ++ past)) last)
  stands_on mid life [] past held = inl refl
  stands_on mid life (one ∷ added) past held = inr (life_adds_legally state gives name mid last life one (added ++ past) held)

  pub done_stands : (call : Call state gives) (request : BoardRequest) → call.status ≡ 0 → Life state gives name (file_of (state call.now) name) last
      → Does request name (state call.entry) (state call.now) call.status → IsDone request name (state call.entry) (state call.now) last
  done_stands call request is life (board.unopened (board.without_memory out ends)) = absurd (never_closes is (λ n. omega arith) ends.closes)
  done_stands call request is life (board.unopened (board.without_disk ends)) = absurd (never_closes is (λ n. omega arith) ends.closes)
  done_stands call request is life (board.unopened (board.no_board offset byte none same ends)) = absurd (never_closes is (λ n. omega arith) ends.closes)
  done_stands call request is life (board.answered before legal may has ends) = record {
    past = before;
    legal = legal;
    had = has call.told;
    said = said_whole is ends.closes;
    stands = stands_on (file_of (state call.now) name) life (answer_of request before).added before
        (may, either_one ((answer_of request before).added ++ before) (file_of (state call.now) name) (ends.lasts call.told).file);
  }
  done_stands call request is life (board.unrecorded before legal has out ends) = absurd (never_closes is (λ n. omega arith) ends.closes)
  done_stands call request is life (board.disk_failed before legal may has ends) = absurd (never_closes is (λ n. omega arith) ends.closes)
  done_stands call request is life (board.filled before size need legal has full ends) = absurd (never_closes is (λ n. omega arith) ends.closes)
