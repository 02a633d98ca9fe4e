use Rattle.std.proofs.Common.{◌≡◌, take, map}
use Rattle.tf_flow.specs.Tree.{name_at}
use Rattle.tf_flow.specs.Shown.{shown_places}
use Rattle.tf_flow.proofs.refusals.names.Given as goal

abbrev pub invariant-loop-place : goal.invariant-loop-place
invariant-loop-place l = l.names.items ≡ map name_at (shown_places (take l.place-index l.order))
