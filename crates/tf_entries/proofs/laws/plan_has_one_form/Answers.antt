use Rattle.tf_entries.proofs.DecodingLemmas.{plan_one}
use Rattle.tf_entries.proofs.laws.plan_has_one_form.Goals as goal

pub returns : goal.returns
returns c = plan_one
