use Rattle.tf_audit.proofs.ProgressLemmas.{begun_ready}
use Rattle.tf_audit.proofs.progress.Progress.make.Goals as goal

pub returns-clause-ready : goal.returns-clause-ready
returns-clause-ready c = begun_ready _ c.plan-plan.result.now c.atoms.result c.plan-plan.ensures.is c.names_are_names.ensures c.in_ok-flows.ensures c.atoms.ensures.count c.in_ok-orders.ensures.many c.in_ok-orders.ensures.whole
