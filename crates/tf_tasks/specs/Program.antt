-- Orders for which a program is run.
use Rattle.std.specs.Prelude.{◌≡◌, Bool, true, false, ◌&&◌}
use Rattle.std.specs.List.{list_all}
use Rattle.tf_flow.specs.declared.atoms.TaskKind.{TaskKind}
use Rattle.tf_flow.specs.declared.atoms.Undo.{Undo}
use Rattle.tf_flow.specs.declared.atoms.Undo.TheVariants as undo
use Rattle.tf_flow.specs.Rules.{is_command}
use Rattle.tf_actions.specs.declared.orders.Given.{Given}
use Rattle.tf_actions.specs.declared.orders.Given.TheVariants as given
use Rattle.tf_actions.specs.declared.orders.Order.{Order}
use Rattle.tf_actions.specs.declared.outcomes.Action.{Action}
use Rattle.tf_actions.specs.declared.outcomes.Action.TheVariants as action
use Rattle.tf_states.specs.declared.record.Failure.TheVariants as failure
use Rattle.tf_actions.specs.declared.outcomes.Outcome.{Outcome}
use Rattle.tf_actions.specs.declared.outcomes.Outcome.TheVariants as outcome
use Rattle.tf_tasks.specs.Run.{has_text}

-- the undo is a program
abbrev pub is_run : Undo → Bool
is_run undo.Pass = false
is_run undo.Fail = false
is_run (undo.Run words) = true

-- a command that is executed, or an undo that is a program, with the arguments found
abbrev pub is_program_for : Action → TaskKind → Undo → Given → Bool
is_program_for action.Execute kind undo (given.Found pairs) = is_command kind
is_program_for action.Revert kind undo (given.Found pairs) = is_run undo
is_program_for how kind undo (given.Missing symbol) = false

-- the order asks for a program to be run
abbrev pub is_program : Order → Bool
is_program order = is_program_for order.action order.kind order.undo order.given

-- the arguments were found, and the plain bytes of each are a text
abbrev pub are_texts : Given → Bool
are_texts (given.Found pairs) = list_all has_text pairs
are_texts (given.Missing symbol) = false

-- a program is run for the order; for any other nothing is asked of the spawner
abbrev pub runs_program : Order → Bool
runs_program order = is_program order && are_texts order.given

-- its program couldn't be run
pub record IsUnspawned (order : Order) (result : Outcome) : Type 0 where
  pub program : is_program order ≡ true
  pub failed : result ≡ outcome.Failed failure.Spawn
