use Rattle.std.proofs.Common.{◌≡◌, map, None}
use Rattle.tf_flow.specs.Tree.{first_some}
use Rattle.tf_model.specs.Plan.{outline_of}
use Rattle.tf_model.specs.Scope.{missing_of}
use Rattle.tf_numbers.specs.Numbers.{numbers_below}
use Rattle.tf_scopes.specs.Sources.{sources_of}
use Rattle.tf_scopes.proofs.providers.find_providers.Given as goal

abbrev pub invariant-loop-atom : goal.invariant-loop-atom
invariant-loop-atom l = (l.providers ≡ map (sources_of (outline_of l.plan)) (numbers_below l.atom)) × (first_some (missing_of (outline_of l.plan)) (numbers_below l.atom) ≡ None)
