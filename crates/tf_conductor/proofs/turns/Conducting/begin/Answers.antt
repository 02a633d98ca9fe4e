use Rattle.std.proofs.Common.{sym, subst}
use Rattle.tf_shared_board.specs.Shared.{SharedValue}
use Rattle.tf_conductor.specs.Conducting.{IsConducting}
use Rattle.tf_conductor.proofs.TurnLemmas.{kept_begun}
use Rattle.tf_conductor.proofs.turns.Conducting.begin.Goals as goal

pub invariant_of-result : goal.invariant_of-result
invariant_of-result g c =
    let state = g.K.Desk.state in
    subst (λ (s : SharedValue _). IsConducting state record { begun = s; now = c.args.shared; owners = c.of.result.value }) (sym c.of-begun.ensures) (kept_begun state c.args.shared c.of.result.value)
