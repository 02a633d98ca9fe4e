use Rattle.std.proofs.Common.{◌≡◌, take}
use Rattle.tf_flow.specs.Tree.{atom_names}
use Rattle.tf_flow.specs.Shown.{shown_places}
use Rattle.tf_flow.proofs.plans.atom_names.Given as goal

abbrev pub invariant-loop-place : goal.invariant-loop-place
invariant-loop-place l = l.names.items ≡ atom_names (shown_places (take l.place-index l.order))
