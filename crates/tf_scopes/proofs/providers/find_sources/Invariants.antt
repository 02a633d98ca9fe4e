use Rattle.std.proofs.Common.{◌≡◌, map, take, drop}
use Rattle.tf_flow.specs.Tree.{first_some}
use Rattle.tf_model.specs.Plan.{outline_of, arguments}
use Rattle.tf_model.specs.Scope.{missing_argument, missing_of}
use Rattle.tf_scopes.specs.Sources.{source_of_argument}
use Rattle.tf_scopes.proofs.providers.find_sources.Given as goal

abbrev pub invariant-loop-arg : goal.invariant-loop-arg
invariant-loop-arg l = (l.sources ≡ map (source_of_argument (outline_of l.plan) l.scope.atom) (take l.arg-index (arguments (outline_of l.plan) l.scope.atom)))
    × (missing_of (outline_of l.plan) l.scope.atom ≡ first_some (missing_argument (outline_of l.plan) l.scope.atom) (drop l.arg-index (arguments (outline_of l.plan) l.scope.atom)))
