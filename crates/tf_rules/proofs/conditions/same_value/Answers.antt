use Rattle.tf_rules.proofs.ValueLemmas.{same_by}
use Rattle.tf_rules.proofs.conditions.same_value.Goals as goal

pub returns : goal.returns
returns c = same_by c.args.value.now c.args.other.now c.same.result c.encoded_len.ensures.value c.encoded_len-2.ensures.value c.same.ensures
