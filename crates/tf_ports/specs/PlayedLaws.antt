-- What a performer in memory gives keeps the laws of outcomes.
use Rattle.std.specs.Prelude.{◌≡◌}
use Rattle.std.proofs.Common.{inl, inr, subst}
use Rattle.tf_values.specs.declared.value.Val.{Val}
use Rattle.tf_values.specs.declared.value.Val.TheVariants as value
use Rattle.tf_actions.specs.declared.orders.Given.{Given}
use Rattle.tf_actions.specs.declared.outcomes.Action.{Action}
use Rattle.tf_actions.specs.declared.outcomes.Action.TheVariants as action
use Rattle.tf_actions.specs.declared.outcomes.Outcome.TheVariants as outcome
use Rattle.tf_actions.specs.Laws.{LooksUp, RevertsToNothing}
use Rattle.tf_ports.specs.MemoryPerformer.{IsNothingOrLost, IsPlayed, IsPlayedFor}

pub nothing_alone : (result : Val) → IsNothingOrLost (outcome.Gave result) → result ≡ value.Nothing
nothing_alone result (inl is) = cc
nothing_alone result (inr is) = cc

pub played_looks_up : LooksUp IsPlayed
played_looks_up order symbol result execute missing given =
    let P : Action → Given → Type 0 = λ a g. IsPlayedFor a g result in subst (P action.Execute) missing
    (subst (λ a. P a order.given) execute given)

pub played_reverts : RevertsToNothing IsPlayed
played_reverts order result revert given =
    nothing_alone result
    (let P : Action → Type 0 = λ a. IsPlayedFor a order.given (outcome.Gave result) in subst P revert given)
