-- The outcomes that entries carry, and which of them a program may have.
use Rattle.tf_values.specs.declared.value.Val.TheVariants as value
use Rattle.tf_states.specs.declared.record.Payload.{Payload}
use Rattle.tf_states.specs.declared.record.Payload.TheVariants as payload
use Rattle.tf_actions.specs.declared.outcomes.Action.{Action}
use Rattle.tf_actions.specs.declared.outcomes.Action.TheVariants as action
use Rattle.tf_actions.specs.declared.outcomes.Outcome.{Outcome}
use Rattle.tf_actions.specs.declared.outcomes.Outcome.TheVariants as outcome
use Rattle.tf_actions.specs.Gives.{GivesText, GivesNothing}

-- the outcome of the task that an entry with this payload ends: a reversion gave nothing
abbrev pub outcome_in : Payload → Outcome
outcome_in payload.Empty = outcome.Gave value.Nothing
outcome_in (payload.Value result) = outcome.Gave result
outcome_in (payload.Fault fault) = outcome.Failed fault

-- what a program may give that is executed, and one that undoes
abbrev pub EndsProgram : Action → Outcome → Type 0
EndsProgram action.Execute came = GivesText came
EndsProgram action.Revert came = GivesNothing came
