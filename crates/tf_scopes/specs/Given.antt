-- When an argument's value is missed, and what stands in its place.
use Rattle.std.specs.Prelude.{Bool, true, false, Option, Some, None}
use Rattle.tf_values.specs.declared.value.Val.{Val}
use Rattle.tf_actions.specs.declared.outcomes.Action.{Action}
use Rattle.tf_actions.specs.declared.outcomes.Action.TheVariants as action

-- a value that is missing is missed by an order to execute; one to revert takes Nothing in its place
abbrev pub is_missed : Option Val → Action → Bool
is_missed (Some v) how = false
is_missed None action.Execute = true
is_missed None action.Revert = false
