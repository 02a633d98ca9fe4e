-- Worked plans: their order, scopes, standing order, refusals and bounds.
use Rattle.std.specs.Prelude.{◌≡◌, ℕ, List, [], ◌∷◌, codes, false, Some, None, refl, map}
use Rattle.tf_flow.specs.Tree.{Tree}
use Rattle.tf_flow.specs.declared.atoms.Provides.TheVariants as provides
use Rattle.tf_flow.specs.declared.atoms.RetryKind.TheVariants as retry
use Rattle.tf_flow.specs.declared.atoms.TaskKind.TheVariants as task_kind
use Rattle.tf_flow.specs.declared.atoms.Undo.TheVariants as undo
use Rattle.tf_flow.specs.declared.deciders.Depth.TheVariants as depth
use Rattle.tf_flow.specs.declared.nested.FlowKind.TheVariants as kind
use Rattle.tf_numbers.specs.Numbers.{pair, pairs_below, which_below}
use Rattle.tf_model.specs.Before.{find_flow}
use Rattle.tf_model.specs.Plan.{Outline, is_before, holds, path, ambiguous, cycle, tree_refusal, tree_bound}
use Rattle.tf_model.specs.Scope.{members, missing_symbol}
use Rattle.tf_model.specs.Readiness.{ignores}
use Rattle.tf_model.proofs.Told.{standing_in, linked_in}
use Rattle.tf_model.proofs.RowWords.{number, same_arg, echo, echo_to, echo_of, work, fail_below, controller, flow_of_items, plan_of, linked_plan_of, link}
use Rattle.tf_model.proofs.RowsOfDeciders.{depth_all_plan}

-- a task, and a nested flow with a retry controller of its own, in a flow with one
abbrev pub nested_tree : Tree
nested_tree =
    flow_of_items kind.Linear (codes "main") (controller (codes "r") (retry.Times 2 false) [] [] (provides.Whole (codes "k")))
    (echo (codes "a") (number 1)
    ∷ flow_of_items kind.Linear (codes "n") (controller (codes "s") retry.AlwaysRevert [] [] provides.Nothing) (echo_of (codes "b") (codes "k") ∷ [])
    ∷ [])

pub nested_path : path (plan_of nested_tree) 3 ≡ record { flow = 0; item = Some 1 } ∷ record { flow = 1; item = Some 0 } ∷ []
nested_path = refl

pub nested_before : pairs_below 4 (is_before (plan_of nested_tree)) ≡ pair 0 1 ∷ pair 0 2 ∷ pair 0 3 ∷ pair 1 2 ∷ pair 1 3 ∷ pair 2 3 ∷ []
unfolding is_before
nested_before = refl

pub nested_holds : which_below 4 (holds (plan_of nested_tree) 1) ≡ 2 ∷ 3 ∷ []
unfolding holds
nested_holds = refl

pub nested_members : members (plan_of nested_tree) 3 ≡ 2 ∷ 1 ∷ 0 ∷ []
unfolding is_before members
nested_members = refl

pub nested_found : missing_symbol (plan_of nested_tree) ≡ None
unfolding is_before members
nested_found = refl

-- items of a graph flow that stand in another order than they are written
abbrev pub turned_plan : Outline
turned_plan = linked_plan_of (flow_of_items kind.Graph (codes "g") None (echo (codes "c") (number 3) ∷ echo (codes "a") (number 1) ∷ echo (codes "b") (number 2) ∷ []))
    (link (codes "a") (codes "b") ∷ link (codes "b") (codes "c") ∷ [])

pub turned_standing : standing_in (find_flow turned_plan.flows 0) ≡ 1 ∷ 2 ∷ 0 ∷ []
turned_standing = refl

pub turned_before : pairs_below 3 (is_before turned_plan) ≡ pair 1 0 ∷ pair 1 2 ∷ pair 2 0 ∷ []
unfolding is_before
turned_before = refl

-- a link that is inferred from a symbol
abbrev pub inferred_tree : Tree
inferred_tree = flow_of_items kind.Graph (codes "g") None (echo_of (codes "b") (codes "x") ∷ echo_to (codes "a") (number 1) (codes "x") ∷ [])

pub inferred_link : linked_in (find_flow (plan_of inferred_tree).flows 0) ≡ pair 1 0 ∷ []
inferred_link = refl

-- a task that takes one symbol and gives another
abbrev pub passing : List ℕ → List ℕ → List ℕ → Tree
passing name taken given = work name task_kind.Echo (same_arg taken ∷ []) [] (provides.Whole given) undo.Pass

-- three tasks of which each takes what another gives
abbrev pub circle_tree : Tree
circle_tree = flow_of_items kind.Graph (codes "g") None
    (passing (codes "a") (codes "z") (codes "x") ∷ passing (codes "b") (codes "x") (codes "y") ∷ passing (codes "c") (codes "y") (codes "z") ∷ [])

pub circle_refused : tree_refusal circle_tree (plan_of circle_tree) ≡ Some (cycle (codes "a" ∷ codes "b" ∷ codes "c" ∷ []))
circle_refused = refl

-- a symbol that two tasks give
abbrev pub doubled_tree : Tree
doubled_tree = flow_of_items kind.Graph (codes "g") None
    (echo_to (codes "a") (number 1) (codes "x") ∷ echo_to (codes "b") (number 2) (codes "x") ∷ echo_of (codes "c") (codes "x") ∷ [])

pub doubled_refused : tree_refusal doubled_tree (plan_of doubled_tree) ≡ Some (ambiguous (codes "x") (codes "a") (codes "b"))
doubled_refused = refl

-- in an unordered flow nobody is before the task that takes a symbol
abbrev pub unordered_tree : Tree
unordered_tree = flow_of_items kind.Unordered (codes "main") None (echo_to (codes "B") (number 2) (codes "x") ∷ echo_of (codes "C") (codes "x") ∷ [])

pub unordered_missing : missing_symbol (plan_of unordered_tree) ≡ Some (record { atom = codes "C"; symbol = codes "x" })
unfolding is_before members
unordered_missing = refl

-- what each depth of a refused task ignores
pub ignored_by_depth : map (λ how. which_below 5 (ignores depth_all_plan 1 how)) (depth.All ∷ depth.Flow ∷ depth.Neighbors ∷ depth.Atom ∷ [])
    ≡ (1 ∷ 2 ∷ 3 ∷ 4 ∷ []) ∷ (1 ∷ 2 ∷ 3 ∷ []) ∷ (1 ∷ 2 ∷ []) ∷ (1 ∷ []) ∷ []
unfolding is_before ignores
ignored_by_depth = refl

-- the most entries of a run of two tasks in a line, and of one task with three attempts
pub two_tasks_bound : tree_bound (flow_of_items kind.Linear (codes "main") None (echo (codes "a") (number 1) ∷ echo (codes "b") (number 2) ∷ [])) ≡ 25
two_tasks_bound = refl

pub three_attempts_bound : tree_bound (flow_of_items kind.Linear (codes "main") (controller (codes "r") (retry.Times 3 false) [] [] (provides.Whole (codes "n"))) (fail_below (codes "t") 3 ∷ [])) ≡ 42
three_attempts_bound = refl
