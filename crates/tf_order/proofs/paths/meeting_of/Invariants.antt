use Rattle.std.proofs.Common.{◌≡◌, drop}
use Rattle.tf_order.specs.Paths as paths
use Rattle.tf_order.proofs.paths.meeting_of.Given as goal

abbrev pub invariant-loop-place : goal.invariant-loop-place
invariant-loop-place l = paths.meeting (drop l.place l.a) (drop l.place l.b) ≡ paths.meeting l.a l.b
