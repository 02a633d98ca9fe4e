-- How many entries one attempt of a flow costs at most, and the life of an atom.
use Rattle.std.specs.Prelude.{ℕ, zero, suc, ◌+◌, ◌-◌, ◌*◌, ◌≤◌, List, [], ◌∷◌, ◌++◌, Option, Some, None, slice_index, Bool, if◌then◌else◌}
use Rattle.tf_flow.specs.declared.atoms.Retry.{Retry}
use Rattle.tf_flow.specs.declared.atoms.RetryKind.{RetryKind}
use Rattle.tf_flow.specs.Tree.{Tree, Trees, task, flow, no_trees, tree, tree_of}
use Rattle.tf_flow.specs.Plan.{PlanValue}
use Rattle.tf_model.specs.Plan.{Outline, outline_of, count, tries_by, costs}
use Rattle.tf_model.specs.Forced.{is_of_its_flow}
use Rattle.tf_model.specs.Retries.{retry_kind}

-- how often a retry controller of this kind may try its flow; a task has no kind, and counts as one try
abbrev pub tries_of : Option RetryKind → ℕ
tries_of None = 1
tries_of (Some how) = tries_by how

-- how often atom r may try its flow
abbrev pub tries_at : Outline → ℕ → ℕ
tries_at plan r = tries_of (retry_kind plan r)

-- each retry controller may try its flow at least once
abbrev pub HasAttempts : Outline → Type 0
HasAttempts plan = (r : ℕ) → 1 ≤ tries_at plan r

-- a cost where there is a retry controller
abbrev pub retry_costs : Option Retry → ℕ → List ℕ
retry_costs None cost = []
retry_costs (Some r) cost = cost ∷ []

-- of each atom of a tree, in tree order, the most entries of one attempt of the flow that it controls: in it the
-- retry controller has 6, and its items what they cost; a task controls none
abbrev mutual
  pub attempt_costs : Tree → List ℕ
  attempt_costs (task t) = 0 ∷ []
  attempt_costs (flow head items) = retry_costs head.retry (6 + costs items) ++ attempt_costs_among items

  pub attempt_costs_among : Trees → List ℕ
  attempt_costs_among no_trees = []
  attempt_costs_among (tree first others) = attempt_costs first ++ attempt_costs_among others

-- the most entries of one attempt of the flow of retry controller r
abbrev pub each : PlanValue → ℕ → ℕ
each plan r = slice_index (attempt_costs (tree_of plan.root)) r

-- the most entries of an atom's life, where an attempt costs so much: 6 of its own, and of a retry controller
-- also all attempts but the first
abbrev pub most_with : Outline → (ℕ → ℕ) → ℕ → ℕ
most_with plan attempt a = (tries_at plan a - 1) * attempt a + 6

-- the most entries of an atom's life
abbrev pub most : PlanValue → ℕ → ℕ
most plan a = most_with (outline_of plan) (each plan) a

-- the sum of a number of each atom below n
abbrev pub sum_below : ℕ → (ℕ → ℕ) → ℕ
sum_below zero number = 0
sum_below (suc n) number = sum_below n number + number n

-- a number where a test passes, and 0 elsewhere
abbrev pub where_passes : Bool → ℕ → ℕ
where_passes test number = if test then number else 0

-- the sum of the lives of the other atoms that the flow of retry controller r holds
abbrev pub lives_beside : PlanValue → ℕ → ℕ
lives_beside plan r =
    sum_below (count (outline_of plan)) (λ a. where_passes (is_of_its_flow (outline_of plan) r a) (most plan a))
