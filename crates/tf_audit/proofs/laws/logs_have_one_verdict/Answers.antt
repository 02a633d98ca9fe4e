use Rattle.tf_audit.proofs.UniqueLemmas.{one_verdict}
use Rattle.tf_audit.proofs.laws.logs_have_one_verdict.Goals as goal

pub returns : goal.returns
returns c = λ log one two few first second. one_verdict c.args.plan.now c.root.ensures.accepted c.names_are_names.ensures log few one two first second
