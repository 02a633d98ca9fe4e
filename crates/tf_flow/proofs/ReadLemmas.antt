-- What a plan reads at a number.
use Rattle.std.proofs.Common.{◌≡◌, ℕ, List, Option, Some, None, sym, ap, ◌∙◌, slice_get, rules, Bor}
use Rattle.std.specs.Prelude.{option_map, IsSome}
use Rattle.tf_flow.specs.declared.nested.Flow.{Flow as FlowValue}
use Rattle.tf_flow.specs.declared.paths.Part.{Part as CodePart}
use Rattle.tf_flow.specs.Tree.{Tree, tree_of}
use Rattle.tf_flow.specs.declared.paths.Turn.{Turn}
use Rattle.tf_flow.specs.Plan.{PlanValue, paths, paths_to_flows, part, flow}
use Rattle.tf_flow.specs.Paths.{shown_part, part_at, flow_at_end}
use Rattle.tf_flow.proofs.PathLemmas.{part_there, flow_there, paths_there, flows_there}

pub part_found : (plan : PlanValue) (a : ℕ) (path : List Turn) (o : Option CodePart) (p : CodePart) → slice_get (paths plan) a ≡ Some path → option_map shown_part o ≡ part_at (tree_of plan.root) path → o ≡ Some p
    → part plan a ≡ Some (shown_part p)
part_found plan a path o p there found is = part_there plan.root a path there ∙ (sym found ∙ ap (option_map shown_part) is)

mapped_some : {X Y : Type 0} (f : X → Y) (o : Option X) (y : Y) → option_map f o ≡ Some y → IsSome o
mapped_some f None y is = absurd (cc)
mapped_some f (Some x) y is = search rules

pub part_is_there : (plan : PlanValue) (a : ℕ) (path : List Turn) (o : Option CodePart) → slice_get (paths plan) a ≡ Some path → option_map shown_part o ≡ part_at (tree_of plan.root) path → IsSome o
part_is_there plan a path o there found = let is = paths_there plan.root a path there in mapped_some shown_part o is.0 (found ∙ is.1)

-- what the code shows as a flow
abbrev tree_now : Bor FlowValue → Tree
tree_now f = tree_of f.now

pub flow_found : (plan : PlanValue) (g : ℕ) (path : List Turn) (o : Option (Bor FlowValue)) (f : Bor FlowValue) → slice_get (paths_to_flows plan) g ≡ Some path → option_map tree_now o ≡ flow_at_end (tree_of plan.root) path → o ≡ Some f
    → flow plan g ≡ Some (tree_of f.now)
flow_found plan g path o f there found is = flow_there plan.root g path there ∙ (sym found ∙ ap (option_map tree_now) is)

pub flow_is_there : (plan : PlanValue) (g : ℕ) (path : List Turn) (o : Option (Bor FlowValue)) → slice_get (paths_to_flows plan) g ≡ Some path → option_map tree_now o ≡ flow_at_end (tree_of plan.root) path → IsSome o
flow_is_there plan g path o there found = let is = flows_there plan.root g path there in mapped_some tree_now o is.0 (found ∙ is.1)
