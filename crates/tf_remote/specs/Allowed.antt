-- Which outcomes a program may have.
use Rattle.tf_actions.specs.declared.outcomes.Action.{Action}
use Rattle.tf_actions.specs.declared.outcomes.Action.TheVariants as action
use Rattle.tf_actions.specs.declared.outcomes.Outcome.{Outcome}
use Rattle.tf_actions.specs.Gives.{GivesText, GivesNothing}

-- what a program may give that is executed, and one that undoes
abbrev pub GivesProgram : Action → Outcome → Type 0
GivesProgram action.Execute came = GivesText came
GivesProgram action.Revert came = GivesNothing came
