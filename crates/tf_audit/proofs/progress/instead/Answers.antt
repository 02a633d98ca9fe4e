use Rattle.tf_audit.proofs.ProgressLemmas.{on_ok_always}
use Rattle.tf_audit.proofs.progress.instead.Goals as goal

pub returns-clause-refused : goal.returns-clause-refused
returns-clause-refused c = on_ok_always c.expected.result _ (c.is_refusal-refused.ensures c.if-not-refused.false)
