use Rattle.tf_machine.specs.Intervals.{AreSteppedFrom}
use Rattle.tf_machine.proofs.counters.step_interval.Given as goal

abbrev pub invariant-loop-place : goal.invariant-loop-place
invariant-loop-place l = AreSteppedFrom l.more l.first l.place l.initial.counts l.counts
