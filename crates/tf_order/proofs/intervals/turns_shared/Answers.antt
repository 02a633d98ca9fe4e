use Rattle.std.proofs.Common.{arith}
use Rattle.tf_order.proofs.IntervalLemmas.{agree_next}
use Rattle.tf_order.proofs.intervals.turns_shared.Goals as goal

pub loop-place-preserved : goal.loop-place-preserved
loop-place-preserved c = agree_next c.args.first.now c.args.second.now c.loop-place.place _ _ c.loop-place.invariant (omega arith) (omega arith) (c.is_same_turn.ensures c.if-not-is_same_turn.false)
