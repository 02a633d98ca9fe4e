-- What the graph of a plan says of its atoms.
use Rattle.std.specs.Prelude.{◌≡◌, ℕ, ◌+◌, List, Bool, false, ◌&&◌, Option, None, Some, map, nat_eq}
use Rattle.tf_flow.specs.Plan.{PlanValue}
use Rattle.tf_flow.specs.declared.nested.FlowKind.{FlowKind}
use Rattle.tf_flow.specs.declared.nested.FlowKind.TheVariants as kind
use Rattle.tf_numbers.specs.Numbers.{which_below, numbers_below, Pair}
use Rattle.tf_model.specs.Before.{Flow, flow_at}
use Rattle.tf_model.specs.Plan.{Outline, outline_of, count, path, is_before, compile_refusal}
use Rattle.tf_model.specs.Scope.{is_earlier}
use Rattle.tf_model.specs.Readiness.{is_sibling, last_item, home, linked_places}

-- all atoms before a, ascending
abbrev pub predecessors_of : Outline → ℕ → List ℕ
predecessors_of plan a = which_below (count plan) (is_earlier plan a)

-- all atoms after a, ascending
abbrev pub successors_of : Outline → ℕ → List ℕ
successors_of plan a = which_below (count plan) (is_before plan a)

-- the place after the first is the second
abbrev pub is_next_place : Option ℕ → Option ℕ → Bool
is_next_place None to = false
is_next_place (Some u) None = false
is_next_place (Some u) (Some v) = nat_eq (u + 1) v

-- one place of a flow leads to another: in a graph flow by a link, in a linear flow to the next, and
-- in an unordered flow to none
abbrev pub leads_by_kind : FlowKind → List Pair → Option ℕ → Option ℕ → Bool
leads_by_kind kind.Linear linked from to = is_next_place from to
leads_by_kind kind.Unordered linked from to = false
leads_by_kind kind.Graph linked from to = linked_places linked from to

-- one place of this flow leads to another
abbrev pub leads_in : Flow → Option ℕ → Option ℕ → Bool
leads_in f from to = leads_by_kind f.place.kind f.linked from to

-- b is a task of a's own flow, and a's place leads to its place
abbrev pub leads_to : Outline → ℕ → ℕ → Bool
leads_to plan a b = is_sibling plan a b && leads_in (home plan a) (last_item (path plan a)) (last_item (path plan b))

-- the tasks that a link or the next place leads to from a, ascending
abbrev pub direct_tasks_of : Outline → ℕ → List ℕ
direct_tasks_of plan a = which_below (count plan) (leads_to plan a)

-- all atoms in standing order
abbrev pub standing_of_plan : Outline → List ℕ
standing_of_plan plan = (flow_at plan.flows 0).standing

-- what a graph tells: for each atom those before it, those after it and the tasks that it leads to; and
-- the standing order
pub record GraphValue : Type 0 where
  pub predecessors : List (List ℕ)
  pub successors : List (List ℕ)
  pub direct_tasks : List (List ℕ)
  pub standing : List ℕ

-- the graph is this plan's, which compiles
pub record IsGraphOf (graph : GraphValue) (plan : PlanValue) : Type 0 where
  pub predecessors : graph.predecessors ≡ map (predecessors_of (outline_of plan))
      (numbers_below (count (outline_of plan)))
  pub successors : graph.successors ≡ map (successors_of (outline_of plan)) (numbers_below (count (outline_of plan)))
  pub direct_tasks : graph.direct_tasks ≡ map (direct_tasks_of (outline_of plan))
      (numbers_below (count (outline_of plan)))
  pub standing : graph.standing ≡ standing_of_plan (outline_of plan)
  pub compiles : compile_refusal plan ≡ None
