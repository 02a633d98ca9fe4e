use Rattle.tf_order.specs.Intervals.{Agree}
use Rattle.tf_order.proofs.intervals.turns_shared.Given as goal

abbrev pub invariant-loop-place : goal.invariant-loop-place
invariant-loop-place l = Agree l.place l.first l.second
