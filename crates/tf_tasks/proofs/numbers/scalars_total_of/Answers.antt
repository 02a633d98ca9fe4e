use Rattle.std.proofs.Common.{rules, arith}
use Rattle.std.proofs.lemmas.Int.{ints}
use Rattle.tf_tasks.proofs.TotalLemmas.{scalars_step}
use Rattle.tf_tasks.proofs.numbers.scalars_total_of.Goals as goal

pub loop-scalar-preserved : goal.loop-scalar-preserved
loop-scalar-preserved c =
    let rest = scalars_step c.args.scalars.now c.loop-scalar.scalar-index c.scalar-item.result (search rules) c.scalar-item.is in
    (omega (arith, ints), omega (arith, ints), omega (arith, ints))
