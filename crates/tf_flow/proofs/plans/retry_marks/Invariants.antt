use Rattle.std.proofs.Common.{◌≡◌, take}
use Rattle.tf_flow.specs.Tree.{retry_marks}
use Rattle.tf_flow.specs.Shown.{shown_places}
use Rattle.tf_flow.proofs.plans.retry_marks.Given as goal

abbrev pub invariant-loop-place : goal.invariant-loop-place
invariant-loop-place l = l.marks.items ≡ retry_marks (shown_places (take l.place-index l.order))
