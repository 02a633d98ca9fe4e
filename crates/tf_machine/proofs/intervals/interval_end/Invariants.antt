use Rattle.std.proofs.Common.{◌-◌, ◌<◌, ◌≤◌, length}
use Rattle.tf_machine.specs.Intervals.{AreBeside}
use Rattle.tf_machine.proofs.intervals.interval_end.Given as goal

abbrev pub invariant-loop-end : goal.invariant-loop-end
invariant-loop-end l = record {
  begins : l.start < l.end;
  ends : l.end ≤ l.past;
  past : l.past ≤ length l.numbers;
  beside : AreBeside l.numbers l.start l.end;
}

abbrev pub decreases-loop-end : goal.decreases-loop-end
decreases-loop-end l = l.past - l.end
