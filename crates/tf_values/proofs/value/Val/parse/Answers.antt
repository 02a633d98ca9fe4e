use Rattle.tf_values.proofs.ReadingLemmas.{found_text}
use Rattle.tf_values.proofs.value.Val.parse.Goals as goal

pub returns-clause-found : goal.returns-clause-found
returns-clause-found c = found_text c.args.text.now c.whole_value.result c.whole_value.ensures.ok c.whole_value.ensures.refused
