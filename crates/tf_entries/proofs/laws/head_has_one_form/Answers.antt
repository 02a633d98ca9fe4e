use Rattle.tf_entries.proofs.HeadLemmas.{head_one}
use Rattle.tf_entries.proofs.laws.head_has_one_form.Goals as goal

pub returns : goal.returns
returns c = head_one
