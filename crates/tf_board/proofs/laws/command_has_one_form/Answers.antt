use Rattle.tf_board.proofs.FormLemmas.{command_one, command_long}
use Rattle.tf_board.proofs.laws.command_has_one_form.Goals as goal

pub returns-clause-one : goal.returns-clause-one
returns-clause-one c = command_one

pub returns-clause-long : goal.returns-clause-long
returns-clause-long c = command_long
