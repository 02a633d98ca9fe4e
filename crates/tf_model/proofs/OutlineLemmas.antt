-- The outline of a plan has the plan's flows, by their numbers.
use Rattle.std.proofs.Common.{◌≡◌, ℕ, List, [], ◌∷◌, map, refl, ap, ◌∙◌}
use Rattle.tf_flow.specs.Plan.{PlanValue, flows}
use Rattle.tf_flow.specs.Tree.{tree_of}
use Rattle.tf_flow.specs.Outline.{Atom, FlowPlace, atoms_of, flows_of}
use Rattle.tf_flow.proofs.OutlineLemmas.{place_name, flows_told}
use Rattle.tf_model.specs.Before.{arranged}
use Rattle.tf_model.specs.Plan.{outline_of}
use Rattle.tf_model.specs.Laws.{name_of_flow}

arranged_told : (xs : List Atom) (ps : List FlowPlace) → map name_of_flow (arranged xs ps) ≡ map place_name ps
arranged_told xs [] = refl
arranged_told xs (place ∷ ps) = ap (λ (zs : List (List ℕ)). place.name ∷ zs) (arranged_told xs ps)

pub same_flows : (plan : PlanValue) → map name_of_flow (outline_of plan).flows ≡ flows plan
same_flows plan = arranged_told (atoms_of 0 (tree_of plan.root)) (flows_of 0 0 (tree_of plan.root)) ∙ flows_told (tree_of plan.root) 0 0
