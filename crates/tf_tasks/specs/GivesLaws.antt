-- The outcome relation keeps the laws of outcomes.
use Rattle.std.specs.Prelude.{◌≡◌}
use Rattle.std.proofs.Common.{subst}
use Rattle.tf_values.specs.declared.value.Val.{Val}
use Rattle.tf_values.specs.declared.value.Val.TheVariants as value
use Rattle.tf_flow.specs.declared.atoms.Undo.{Undo}
use Rattle.tf_flow.specs.declared.atoms.Undo.TheVariants as undo
use Rattle.tf_actions.specs.declared.orders.Given.{Given}
use Rattle.tf_actions.specs.declared.orders.Given.TheVariants as given
use Rattle.tf_actions.specs.declared.orders.Order.{Order}
use Rattle.tf_actions.specs.declared.outcomes.Action.{Action}
use Rattle.tf_actions.specs.declared.outcomes.Action.TheVariants as action
use Rattle.tf_actions.specs.declared.outcomes.Outcome.TheVariants as outcome
use Rattle.tf_actions.specs.Gives.{Gives, GivesFor, GivesReverted}
use Rattle.tf_actions.specs.Laws.{LooksUp, RevertsToNothing}

pub undone_is_nothing : (how : Undo) (result : Val) → GivesReverted how (outcome.Gave result) → result ≡ value.Nothing
undone_is_nothing undo.Pass result is = cc
undone_is_nothing undo.Fail result is = cc
undone_is_nothing (undo.Run words) result is = is

pub reverted_is_nothing : (order : Order) (arguments : Given) (result : Val)
    → GivesFor action.Revert order arguments (outcome.Gave result) → result ≡ value.Nothing
reverted_is_nothing order (given.Found pairs) result is = undone_is_nothing order.undo result is
reverted_is_nothing order (given.Missing symbol) result is = cc

pub gives_looks_up : LooksUp Gives
gives_looks_up order symbol result execute missing gives =
    let P : Action → Given → Type 0 = λ a g. GivesFor a order g result in subst (P action.Execute) missing
    (subst (λ a. P a order.given) execute gives)

pub gives_reverts : RevertsToNothing Gives
gives_reverts order result revert gives =
    let P : Action → Type 0 = λ a. GivesFor a order order.given
    (outcome.Gave result) in reverted_is_nothing order order.given result (subst P revert gives)
