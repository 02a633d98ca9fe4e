use Rattle.std.proofs.Common.{◌≡◌, false}
use Rattle.tf_machine.specs.Intervals.{IsZeroless}
use Rattle.tf_machine.proofs.intervals.has_zero.Given as goal

abbrev pub invariant-loop-at : goal.invariant-loop-at
invariant-loop-at l = l.found ≡ false → IsZeroless l.counts l.from l.at
