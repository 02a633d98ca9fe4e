use Rattle.std.proofs.Common.{◌<◌, refl, arith, slice_index_or}
use Rattle.tf_order.proofs.SpreadLemmas.{listed_below}
use Rattle.tf_order.proofs.rows.short_numbers.Goals as goal

pub overflow_cast-number : goal.overflow_cast-number
overflow_cast-number c =
    let below : slice_index_or c.args.numbers.now c.loop-number.number-index 0 < 1000 =
    listed_below 1000 c.args.numbers.now c.loop-number.number-index (slice_index_or c.args.numbers.now c.loop-number.number-index 0) c.requires c.loop-number-test.true refl in
    omega arith
