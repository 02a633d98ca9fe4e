use Rattle.tf_machine.proofs.IntervalLemmas.{beside_told}
use Rattle.tf_machine.proofs.intervals.are_beside.Goals as goal

pub returns : goal.returns
returns c = beside_told c.args.numbers.now c.args.start c.args.end c.requires.start c.requires.end c.requires.apart
