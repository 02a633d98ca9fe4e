use Rattle.tf_migration.proofs.FlowLemmas.{carried_plan, carried_past, carried_legal}
use Rattle.tf_migration.proofs.laws.a_flow_carried_over_is_a_book.Goals as goal

pub returns-clause-legal : goal.returns-clause-legal
returns-clause-legal c = carried_legal

pub returns-clause-plan : goal.returns-clause-plan
returns-clause-plan c = carried_plan

pub returns-clause-history : goal.returns-clause-history
returns-clause-history c = carried_past
