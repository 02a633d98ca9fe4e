-- Plans that are written alike have the same refusal of a target.
use Rattle.std.proofs.Common.{◌≡◌, ◌∙◌, ℕ, suc, ◌+◌, List, [], ◌∷◌, Bool, true, false, ◌||◌, Option, Some, None, refl, sym, ap}
use Rattle.std.specs.Prelude.{nat_eq, if◌then◌else◌}
use Rattle.tf_flow.specs.Outline.{Atom, FlowPlace, atoms_of, flows_of, atom_count, atoms_among_count, retry_count}
use Rattle.tf_flow.specs.Tree.{member_of, Tree, task, flow, Trees, no_trees, tree}
use Rattle.tf_flow.specs.Rules.{is_graph}
use Rattle.tf_flow.specs.Plan.{PlanTree, WrittenTree, written_task, written_flow, WrittenTrees, nothing_written, written, as_written, all_as_written}
use Rattle.tf_flow.specs.declared.atoms.Bind.{Bind}
use Rattle.tf_model.specs.Plan.{Outline, outline_with, root_item_before}
use Rattle.tf_target.specs.Target.{items_in, names_among, place_of_name, keep_first, kept_among, kept_tree, outline_in, is_graph_flow, is_kept, target_tree, refuse_none, refuse_item, target_refusal}
use Rattle.tf_target.specs.declared.faults.TargetFault.{TargetFault}
use Rattle.tf_target.specs.declared.faults.TargetFault.TheVariants as fault
use Rattle.tf_target.proofs.OutlineLemmas.{written_atom_count, atoms_counted, atoms_alike, flows_alike}

-- ---- by what is written

abbrev written_graph : WrittenTree → Bool
written_graph (written_task t) = false
written_graph (written_flow head items) = is_graph head.kind

abbrev written_name : WrittenTree → List ℕ
written_name (written_task t) = t.name
written_name (written_flow head items) = head.name

abbrev written_names : WrittenTrees → List (List ℕ)
written_names nothing_written = []
written_names (written first others) = written_name first ∷ written_names others

abbrev names_written : WrittenTree → List (List ℕ)
names_written (written_task t) = []
names_written (written_flow head items) = written_names items

abbrev count_kept : Bool → ℕ → ℕ → ℕ
count_kept true n rest = n + rest
count_kept false n rest = rest

abbrev written_kept : (ℕ → Bool) → WrittenTrees → ℕ
written_kept test nothing_written = 0
written_kept test (written first others) = count_kept (test 0) (written_atom_count first) (written_kept (λ u. test (suc u)) others)

abbrev kept_written : (ℕ → Bool) → WrittenTree → ℕ
kept_written test (written_task t) = 1
kept_written test (written_flow head items) = retry_count head.retry + written_kept test items

-- ---- of trees

graph_told : (t : Tree) → is_graph_flow t ≡ written_graph (as_written t)
graph_told (task t) = refl
graph_told (flow head items) = refl

name_told : (t : Tree) → (member_of t).name ≡ written_name (as_written t)
name_told (task t) = refl
name_told (flow head items) = refl

all_names_told : (ts : Trees) → names_among ts ≡ written_names (all_as_written ts)
all_names_told no_trees = refl
all_names_told (tree first others) =
    ap (λ (name : List ℕ). name ∷ names_among others) (name_told first) ∙ ap (λ (names : List (List ℕ)). written_name (as_written first) ∷ names) (all_names_told others)

names_told : (t : Tree) → names_among (items_in t) ≡ names_written (as_written t)
names_told (task t) = refl
names_told (flow head items) = all_names_told items

among_told : (test : ℕ → Bool) (ts : Trees) → atoms_among_count (kept_among test ts) ≡ written_kept test (all_as_written ts)
among_told test no_trees = refl
among_told test (tree first others) = either (test 0) (among_told (λ u. test (suc u)) others)
  where
    either : (b : Bool) → atoms_among_count (kept_among (λ u. test (suc u)) others) ≡ written_kept (λ u. test (suc u)) (all_as_written others)
        → atoms_among_count (keep_first b first (kept_among (λ u. test (suc u)) others)) ≡ count_kept b (written_atom_count (as_written first)) (written_kept (λ u. test (suc u)) (all_as_written others))
    either true rest = ap (λ (n : ℕ). n + atoms_among_count (kept_among (λ u. test (suc u)) others)) (atoms_counted first) ∙ ap (λ (n : ℕ). written_atom_count (as_written first) + n) rest
    either false rest = rest

kept_told : (test : ℕ → Bool) (t : Tree) → atom_count (kept_tree test t) ≡ kept_written test (as_written t)
kept_told test (task t) = refl
kept_told test (flow head items) = ap (λ (n : ℕ). retry_count head.retry + n) (among_told test items)

-- ---- of plans that are written alike

module _ (p q : PlanTree) (root : as_written p.root ≡ as_written q.root) (store : p.store ≡ q.store) (defer : p.defer ≡ q.defer) where
  same_outline : outline_in p ≡ outline_in q
  same_outline =
      ap (λ (atoms : List Atom). outline_with atoms (flows_of 0 0 p.root) p.store p.defer) (atoms_alike 0 p.root q.root root)
      ∙ (ap (λ (places : List FlowPlace). outline_with (atoms_of 0 q.root) places p.store p.defer) (flows_alike 0 0 p.root q.root root)
      ∙ (ap (λ (values : List Bind). outline_with (atoms_of 0 q.root) (flows_of 0 0 q.root) values p.defer) store
      ∙ ap (λ (b : Bool). outline_with (atoms_of 0 q.root) (flows_of 0 0 q.root) q.store b) defer))

  same_count : (item : ℕ) → atom_count (target_tree p item) ≡ atom_count (target_tree q item)
  same_count item =
      kept_told (is_kept p item) p.root
      ∙ (ap (λ (o : Outline). kept_written (λ u. nat_eq u item || root_item_before o item u) (as_written p.root)) same_outline
      ∙ (ap (kept_written (is_kept q item)) root
      ∙ sym (kept_told (is_kept q item) q.root)))

  same_names : names_among (items_in p.root) ≡ names_among (items_in q.root)
  same_names = names_told p.root ∙ (ap names_written root ∙ sym (names_told q.root))

  same_item : (name : List ℕ) (found : Option ℕ) → refuse_item p name found ≡ refuse_item q name found
  same_item name None = refl
  same_item name (Some item) = ap refuse_none (same_count item)

  same_graph : is_graph_flow p.root ≡ is_graph_flow q.root
  same_graph = graph_told p.root ∙ (ap written_graph root ∙ sym (graph_told q.root))

  pub same_target : (name : List ℕ) → target_refusal p name ≡ target_refusal q name
  same_target name =
      ap (λ (b : Bool). if b then refuse_item p name (place_of_name (names_among (items_in p.root)) name) else Some fault.NotAGraph) same_graph
      ∙ (ap (λ (names : List (List ℕ)). if is_graph_flow q.root then refuse_item p name (place_of_name names name) else Some fault.NotAGraph) same_names
      ∙ ap (λ (o : Option TargetFault). if is_graph_flow q.root then o else Some fault.NotAGraph) (same_item name (place_of_name (names_among (items_in q.root)) name)))
