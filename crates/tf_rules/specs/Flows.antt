-- The flow in which an atom stands itself.
use Rattle.std.specs.Prelude.{ℕ, Option, Some, None}
use Rattle.tf_flow.specs.Plan.{PlanValue, flow}
use Rattle.tf_flow.specs.Tree.{Tree}
use Rattle.tf_model.specs.Plan.{outline_of, own_flow}

-- the flow of that number, where there is one
abbrev pub tree_at : PlanValue → Option ℕ → Option Tree
tree_at plan None = None
tree_at plan (Some g) = flow plan g

-- the flow in which the atom stands itself, with what stands in it
abbrev pub home_tree : PlanValue → ℕ → Option Tree
home_tree plan a = tree_at plan (own_flow (outline_of plan) a)
