use Rattle.std.proofs.Common.{◌-◌, ◌≤◌}
use Rattle.tf_machine.specs.Intervals.{IsZeroless}
use Rattle.tf_machine.proofs.intervals.skip_zeroless.Given as goal

abbrev pub invariant-loop-at : goal.invariant-loop-at
invariant-loop-at l = record {
  from : l.from ≤ l.at;
  within : l.at ≤ l.past;
  none : IsZeroless l.counts l.from l.at;
}

abbrev pub decreases-loop-at : goal.decreases-loop-at
decreases-loop-at l = l.past - l.at
