use Rattle.tf_machine.specs.Intervals.{IsZeroless}
use Rattle.tf_machine.proofs.intervals.next_zero.Given as goal

abbrev pub invariant-loop-at : goal.invariant-loop-at
invariant-loop-at l = IsZeroless l.counts l.from l.at
