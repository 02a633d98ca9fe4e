-- By the table of states.
use Rattle.tf_model.specs.Plan.{outline_of}
use Rattle.tf_bound.specs.Costs.{each}
use Rattle.tf_bound.proofs.BeginLemmas.{owed_capped}
use Rattle.tf_bound.proofs.SessionLemmas.{left_at_most, entered_at_most}
use Rattle.tf_bound.proofs.laws.owed_is_capped.Goals as goal

pub returns-clause-atoms : goal.returns-clause-atoms
returns-clause-atoms c = λ plan s a counted. owed_capped (outline_of plan) (each plan) s a counted

pub returns-clause-left : goal.returns-clause-left
returns-clause-left c = left_at_most

pub returns-clause-entered : goal.returns-clause-entered
returns-clause-entered c = entered_at_most
