use Rattle.std.proofs.Common.{rules, arith}
use Rattle.std.proofs.lemmas.Int.{ints}
use Rattle.tf_tasks.proofs.TotalLemmas.{pairs_step}
use Rattle.tf_tasks.proofs.numbers.total_of.Goals as goal

pub loop-pair-preserved : goal.loop-pair-preserved
loop-pair-preserved c =
    let rest = pairs_step c.args.pairs.now c.loop-pair.pair-index c.pair-item.result (search rules) c.pair-item.is in
    (omega (arith, ints), omega (arith, ints), omega (arith, ints))
