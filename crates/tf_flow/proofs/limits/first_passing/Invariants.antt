use Rattle.std.proofs.Common.{◌≡◌, drop}
use Rattle.tf_flow.specs.Limits.{passing_at}
use Rattle.tf_flow.specs.Tree.{first_some}
use Rattle.tf_flow.specs.Shown.{shown_places}
use Rattle.tf_flow.proofs.limits.first_passing.Given as goal

abbrev pub invariant-loop-place : goal.invariant-loop-place
invariant-loop-place l = first_some (passing_at l.which) (shown_places (drop l.place-index l.order)) ≡ first_some (passing_at l.which) (shown_places l.order)
