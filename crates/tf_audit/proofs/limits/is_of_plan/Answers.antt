use Rattle.tf_audit.proofs.LineLemmas.{entry_of_plan}
use Rattle.tf_audit.proofs.limits.is_of_plan.Goals as goal

pub returns : goal.returns
returns c = entry_of_plan c.args.plan.now c.args.entry.now c.is_entry.result c.atoms.result c.flows.result c.atoms.ensures.count c.flows.ensures.count c.is_entry.ensures
