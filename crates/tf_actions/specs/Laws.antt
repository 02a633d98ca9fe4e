-- What holds of each performer's outcomes.
use Rattle.std.specs.Prelude.{◌≡◌, ℕ, List}
use Rattle.tf_values.specs.declared.value.Val.{Val}
use Rattle.tf_values.specs.declared.value.Val.TheVariants as value
use Rattle.tf_states.specs.declared.record.Failure.TheVariants as failure
use Rattle.tf_actions.specs.declared.orders.Given.TheVariants as given
use Rattle.tf_actions.specs.declared.orders.Order.{Order}
use Rattle.tf_actions.specs.declared.outcomes.Action.TheVariants as action
use Rattle.tf_actions.specs.declared.outcomes.Outcome.{Outcome}
use Rattle.tf_actions.specs.declared.outcomes.Outcome.TheVariants as outcome

-- to execute with a missing symbol gives exactly that the symbol was looked up in vain
abbrev pub LooksUp : (Order → Outcome → Type 0) → Type 0
LooksUp gives =
    (order : Order) (symbol : List ℕ) (result : Outcome) → order.action ≡ action.Execute
    → order.given ≡ given.Missing symbol → gives order result → result ≡ outcome.Failed (failure.Lookup symbol)

-- a revert that succeeds gives nothing
abbrev pub RevertsToNothing : (Order → Outcome → Type 0) → Type 0
RevertsToNothing gives =
    (order : Order) (result : Val) → order.action ≡ action.Revert → gives order (outcome.Gave result)
    → result ≡ value.Nothing
