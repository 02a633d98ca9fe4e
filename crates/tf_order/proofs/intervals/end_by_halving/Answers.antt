use Rattle.std.proofs.Common.{◌+◌, ◌-◌, ◌/◌, ◌<◌, refl, arith}
use Rattle.tf_order.proofs.IntervalLemmas.{along_to}
use Rattle.tf_order.proofs.intervals.end_by_halving.Goals as goal

pub loop-end-preserved-then-goes_along : goal.loop-end-preserved-then-goes_along
loop-end-preserved-then-goes_along c =
    let begins = c.loop-end.invariant.begins in
    let past = c.loop-end.invariant.past in
    let within : c.loop-end.end + (c.loop-end.past - c.loop-end.end) / 2 < c.loop-end.past = omega (arith, c.loop-end-test.true) in
    record {
      begins = omega (arith, begins);
      ends = omega (arith, within);
      past = past;
      along = along_to c.args.outline.now c.args.b c.args.turns c.args.most (c.loop-end.end + (c.loop-end.past - c.loop-end.end) / 2) (c.loop-end.end + (c.loop-end.past - c.loop-end.end) / 2 + 1)
          c.requires.ascending (omega (arith, within, past)) (c.if-goes_along.ensures refl) refl;
    }
