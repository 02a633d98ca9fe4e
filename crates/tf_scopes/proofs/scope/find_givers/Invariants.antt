use Rattle.std.proofs.Common.{◌≡◌, ◌≤◌, ◌++◌, length, take}
use Rattle.std.specs.Prelude.{reverse}
use Rattle.std.specs.List.{filter_map}
use Rattle.tf_flow.specs.Plan.{PlanValue}
use Rattle.tf_model.specs.Plan.{outline_of}
use Rattle.tf_scopes.specs.Scope.{IsScopeIn}
use Rattle.tf_scopes.specs.Sources.{givers}
use Rattle.tf_scopes.proofs.GiverLemmas.{at_front}
use Rattle.tf_scopes.proofs.scope.find_givers.Given as goal

abbrev pub invariant-loop-left : goal.invariant-loop-left
invariant-loop-left l = (l.left ≤ length l.places)
    × ((plan : PlanValue) → IsScopeIn l.scope plan → l.found.items ++ filter_map (at_front (outline_of plan) l.scope.atom l.scope.front.now) (reverse (take l.left l.places)) ≡ givers (outline_of plan) l.scope.atom l.symbol)

abbrev pub decreases-loop-left : goal.decreases-loop-left
decreases-loop-left l = l.left
