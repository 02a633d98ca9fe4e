-- What is left at each moment of worked runs, and their bounds.
use Rattle.std.specs.Prelude.{◌≡◌, ℕ, List, [], ◌∷◌, codes, false, None, map, take, reverse, length, slice_index, refl}
use Rattle.tf_flow.specs.declared.atoms.Provides.TheVariants as provides
use Rattle.tf_flow.specs.declared.atoms.RetryKind.TheVariants as retry
use Rattle.tf_flow.specs.declared.nested.FlowKind.TheVariants as kind
use Rattle.tf_flow.specs.Tree.{Tree}
use Rattle.tf_states.specs.declared.record.Entry.{Entry}
use Rattle.tf_model.specs.Plan.{holds, tree_bound}
use Rattle.tf_model.specs.History.{mark_after, snapshot}
use Rattle.tf_model.proofs.RowWords.{number, echo, fail_below, controller, flow_of_items, plan_of}
use Rattle.tf_model.proofs.RowsOfTasks.{two_echoes}
use Rattle.tf_model.proofs.RowsOfRetries.{three_attempts}
use Rattle.tf_bound.specs.Costs.{attempt_costs}
use Rattle.tf_bound.specs.Owed.{held, owed_with, left_with}

-- what is left after so many entries of a run of a tree
abbrev left_after : Tree → List Entry → ℕ → ℕ
left_after root entries k = left_with (plan_of root) (slice_index (attempt_costs root)) (snapshot (plan_of root) (reverse (take k entries)))

abbrev two_tasks : Tree
two_tasks = flow_of_items kind.Linear (codes "main") None (echo (codes "a") (number 1) ∷ echo (codes "b") (number 2) ∷ [])

abbrev retried : Tree
retried = flow_of_items kind.Linear (codes "main") (controller (codes "r") (retry.Times 3 false) [] [] (provides.Whole (codes "n"))) (fail_below (codes "t") 3 ∷ [])

-- two echoes record 6 entries, within 25
pub two_echoes_bound : length two_echoes ∷ tree_bound two_tasks ∷ [] ≡ 6 ∷ 25 ∷ []
two_echoes_bound = refl

pub two_echoes_left : map (left_after two_tasks two_echoes) (1 ∷ 2 ∷ 3 ∷ 4 ∷ 5 ∷ 6 ∷ []) ≡ 14 ∷ 13 ∷ 11 ∷ 10 ∷ 8 ∷ 6 ∷ []
unfolding holds mark_after snapshot held owed_with
two_echoes_left = refl

-- three attempts of one task record 24 entries, within 42
pub three_attempts_bound : length three_attempts ∷ tree_bound retried ∷ [] ≡ 24 ∷ 42 ∷ []
three_attempts_bound = refl

pub three_attempts_left : map (left_after retried three_attempts) (1 ∷ 2 ∷ 3 ∷ 4 ∷ 5 ∷ 6 ∷ 7 ∷ 8 ∷ 9 ∷ 10 ∷ 11 ∷ 12 ∷ 13 ∷ 14 ∷ 15 ∷ 16 ∷ 17 ∷ 18 ∷ 19 ∷ 20 ∷ 21 ∷ 22 ∷ 23 ∷ 24 ∷ [])
    ≡ 38 ∷ 37 ∷ 35 ∷ 34 ∷ 33 ∷ 32 ∷ 31 ∷ 30 ∷ 29 ∷ 28 ∷ 25 ∷ 23 ∷ 22 ∷ 21 ∷ 20 ∷ 19 ∷ 18 ∷ 17 ∷ 16 ∷ 13 ∷ 11 ∷ 10 ∷ 8 ∷ 6 ∷ []
unfolding holds mark_after snapshot held owed_with
three_attempts_left = refl
