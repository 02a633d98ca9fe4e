use Rattle.tf_entries.proofs.HeadLemmas.{taken_is, taken_back}
use Rattle.tf_entries.proofs.heads.take_head.Goals as goal

pub returns-clause-taken : goal.returns-clause-taken
returns-clause-taken c = taken_is c.args.bytes.now c.find_head.result c.find_head.ensures

pub returns-clause-back : goal.returns-clause-back
returns-clause-back c = taken_back c.args.bytes.now c.find_head.result c.find_head.ensures
