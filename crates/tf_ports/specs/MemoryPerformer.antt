-- What a performer in memory keeps, and what it gives.
use Rattle.std.specs.Prelude.{◌≡◌, ℕ, List, ◌⊎◌}
use Rattle.tf_values.specs.declared.value.Val.TheVariants as value
use Rattle.tf_states.specs.declared.record.Failure.TheVariants as failure
use Rattle.tf_actions.specs.declared.orders.Given.{Given}
use Rattle.tf_actions.specs.declared.orders.Given.TheVariants as given
use Rattle.tf_actions.specs.declared.orders.Order.{Order}
use Rattle.tf_actions.specs.declared.outcomes.Action.{Action}
use Rattle.tf_actions.specs.declared.outcomes.Action.TheVariants as action
use Rattle.tf_actions.specs.declared.outcomes.Outcome.{Outcome}
use Rattle.tf_actions.specs.declared.outcomes.Outcome.TheVariants as outcome

-- the orders so far, and how many faults there were
pub record HeldByPerformer : Type 0 where
  pub did : List Order
  pub faults : ℕ

-- a failure as of a hand that is lost
abbrev pub IsLost : Outcome → Type 0
IsLost result = result ≡ outcome.Failed failure.Lost

-- nothing, or a failure as of a hand that is lost
abbrev pub IsNothingOrLost : Outcome → Type 0
IsNothingOrLost result = (result ≡ outcome.Gave value.Nothing) ⊎ (result ≡ outcome.Failed failure.Lost)

-- to execute, a missing symbol is looked up in vain
abbrev pub IsPlayedFor : Action → Given → Outcome → Type 0
IsPlayedFor action.Execute (given.Missing symbol) result = result ≡ outcome.Failed (failure.Lookup symbol)
IsPlayedFor action.Execute (given.Found pairs) result = IsNothingOrLost result
IsPlayedFor action.Revert arguments result = IsNothingOrLost result

-- what the order may give
abbrev pub IsPlayed : Order → Outcome → Type 0
IsPlayed order result = IsPlayedFor order.action order.given result
