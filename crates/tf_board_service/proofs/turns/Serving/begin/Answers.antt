use Rattle.std.proofs.Common.{sym, subst}
use Rattle.tf_shared_board.specs.Shared.{SharedValue}
use Rattle.tf_board_service.specs.Serving.{IsServing}
use Rattle.tf_board_service.proofs.TurnLemmas.{kept_begun}
use Rattle.tf_board_service.proofs.turns.Serving.begin.Goals as goal

pub invariant_of-result : goal.invariant_of-result
invariant_of-result g c =
    let state = g.K.Desk.state in
    subst (λ (s : SharedValue _). IsServing state record { begun = s; now = c.args.shared }) (sym c.of-begun.ensures) (kept_begun state c.args.shared)
