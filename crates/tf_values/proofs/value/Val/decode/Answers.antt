use Rattle.tf_values.proofs.ReadingLemmas.{found_front}
use Rattle.tf_values.proofs.value.Val.decode.Goals as goal

pub returns-clause-found : goal.returns-clause-found
returns-clause-found c = found_front c.args.bytes.now c.front_value.result c.front_value.ensures.ok c.front_value.ensures.refused
