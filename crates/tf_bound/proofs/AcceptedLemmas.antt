-- A plan that isn't refused is within its limits.
use Rattle.std.proofs.Common.{◌≡◌, ℕ, zero, suc, ◌+◌, ◌≤◌, List, [], ◌∷◌, ◌++◌, map, Bool, true, false, Option, Some, None, refl, sym, inl, inr, subst, arith, slice_get}
use Rattle.std.specs.Option.{option_or}
use Rattle.std.specs.Prelude.{if◌then◌else◌, nat_lt}
use Rattle.std.specs.List.{AllByRecursion}
use Rattle.std.proofs.lemmas.Bool.{lt-ltb, cases_lt}
use Rattle.tf_flow.specs.declared.atoms.Arg.{Arg}
use Rattle.tf_flow.specs.declared.atoms.Bind.{Bind}
use Rattle.tf_flow.specs.declared.atoms.Retry.{Retry}
use Rattle.tf_flow.specs.declared.atoms.RetryKind.{RetryKind}
use Rattle.tf_flow.specs.declared.atoms.RetryKind.TheVariants as retry
use Rattle.tf_flow.specs.declared.faults.PlanFault.{PlanFault}
use Rattle.tf_flow.specs.declared.faults.PlanFault.TheVariants as fault
use Rattle.tf_flow.specs.declared.nested.Flow.{Flow}
use Rattle.tf_flow.specs.declared.nested.Item.{Item}
use Rattle.tf_flow.specs.Limits.{too_large, capped}
use Rattle.tf_flow.specs.Items.{item_list}
use Rattle.tf_flow.specs.Tree.{first_some, has_twice, Place, name_at, places, places_among, retry_places, tree_order, Tree, Trees, task, flow, no_trees, tree, tree_of, trees_of, item_tree, nesting}
use Rattle.tf_flow.specs.Plan.{PlanValue}
use Rattle.tf_flow.specs.Rules.{empty, duplicate, unknown, bad_link, bad_atom, broken_rule, first_refusal, is_bad_retry_kind, is_bad_atom, bad_atom_at, bind_symbols, repeats_itself}
use Rattle.tf_flow.proofs.TreeLemmas.{tree_of-flow}
use Rattle.tf_flow.specs.Outline.{Atom, atoms_of, atoms_among, retry_atoms, enter, flow_count, injected_in}
use Rattle.tf_model.specs.Plan.{outline_of}
use Rattle.tf_model.proofs.Told.{injects_in, kind_in}
use Rattle.tf_numbers.proofs.TruthLemmas.{clash, neither_first}
use Rattle.tf_bound.specs.Costs.{tries_of, HasAttempts}
use Rattle.tf_bound.specs.Short.{AreShortBinds, IsShortControl, IsShortTree, AreShortTrees, IsWithinLimits}
use Rattle.tf_bound.proofs.CostLemmas.{IsTried}
use Rattle.tf_model.proofs.PathLemmas.{all_both}
use Rattle.tf_numbers.proofs.OptionLemmas.{neither_there, none_if, none_mapped}

-- ---- no atom is bad

both_none : (x y : Option PlanFault) → option_or x y ≡ None → y ≡ None
both_none None y is = is
both_none (Some v) y is = absurd (cc)

then_none : (b : Bool) (x y : Option (List ℕ)) (name : List ℕ) → x ≡ Some name → (if b then x else y) ≡ None → y ≡ None
then_none true x y name some is = absurd (cc)
then_none false x y name some is = is

-- a place that isn't bad
abbrev IsFine : Place → Type 0
IsFine place = is_bad_atom place ≡ false

all_fine : (order : List Place) → first_some bad_atom_at order ≡ None → AllByRecursion IsFine order
all_fine [] is = tt
all_fine (place ∷ order) is =
    let parts = neither_there (bad_atom_at place) (first_some bad_atom_at order) is in
    (none_if (is_bad_atom place) (name_at place) parts.0, all_fine order parts.1)

accepted_fine : (root : Flow) (store : List Bind) → first_refusal root store ≡ None → AllByRecursion IsFine (tree_order root)
accepted_fine root store is =
    let order = tree_order root in
    let rules : broken_rule root.name store order ≡ None = both_none (too_large (capped (nesting (tree_of root))) order store) (broken_rule root.name store order) is in
    let one = both_none (empty order) _ rules in
    let two = both_none (duplicate order) _ one in
    let three = both_none (unknown order) _ two in
    let four : bad_atom root.name store order ≡ None = both_none (bad_link order) (bad_atom root.name store order) three in
    all_fine order (then_none (has_twice (bind_symbols store)) (Some root.name) (first_some bad_atom_at order) root.name refl (none_mapped (λ (name : List ℕ). fault.BadAtom name) _ four))

-- ---- so each retry controller has an attempt

kind_tried : (how : RetryKind) (args : List Arg) → is_bad_retry_kind how args ≡ false → 1 ≤ tries_of (Some how)
kind_tried retry.AlwaysRevert args is = omega arith
kind_tried retry.AlwaysRevertAll args is = omega arith
kind_tried (retry.Times attempts all) args is = elim (cases_lt attempts 1) [
  | inl less ↦ absurd (clash (nat_lt attempts 1) (lt-ltb attempts 1 less) (neither_first (nat_lt attempts 1) _ is))
  | inr most ↦ most
]
kind_tried (retry.ForEach values all) args is = omega arith
kind_tried (retry.Parameterized all) args is = omega arith

fine_first : (xs ys : List Place) → AllByRecursion IsFine (xs ++ ys) → AllByRecursion IsFine xs
fine_first [] ys all = tt
fine_first (x ∷ xs) ys all = (all.0, fine_first xs ys all.1)

fine_second : (xs ys : List Place) → AllByRecursion IsFine (xs ++ ys) → AllByRecursion IsFine ys
fine_second [] ys all = all
fine_second (x ∷ xs) ys all = fine_second xs ys all.1

tried_entered : (g i : ℕ) (xs : List Atom) → AllByRecursion IsTried xs → AllByRecursion IsTried (map (enter g i) xs)
tried_entered g i [] all = tt
tried_entered g i (x ∷ xs) all = (all.0, tried_entered g i xs all.1)

retry_tried : (g : ℕ) (control : Option Retry) → AllByRecursion IsFine (retry_places control) → AllByRecursion IsTried (retry_atoms g control)
retry_tried g None all = tt
retry_tried g (Some r) all = (kind_tried r.kind r.args (neither_first (is_bad_retry_kind r.kind r.args) (repeats_itself r.args r.inject r.provides) all.0), tt)

mutual
  tried_tree : (t : Tree) (g : ℕ) → AllByRecursion IsFine (places t) → AllByRecursion IsTried (atoms_of g t)
  tried_tree (task t) g fine = (omega arith, tt)
  tried_tree (flow head items) g fine =
      all_both IsTried (retry_atoms g head.retry) (atoms_among g 0 (suc g) items)
      (retry_tried g head.retry (fine_first (retry_places head.retry) (places_among items) fine.1))
      (tried_trees items g 0 (suc g) (fine_second (retry_places head.retry) (places_among items) fine.1))

  tried_trees : (ts : Trees) (g i n : ℕ) → AllByRecursion IsFine (places_among ts) → AllByRecursion IsTried (atoms_among g i n ts)
  tried_trees no_trees g i n fine = tt
  tried_trees (tree first others) g i n fine =
      all_both IsTried (map (enter g i) (atoms_of n first)) (atoms_among g (suc i) (n + flow_count first) others)
      (tried_entered g i (atoms_of n first) (tried_tree first n (fine_first (places first) (places_among others) fine)))
      (tried_trees others g (suc i) (n + flow_count first) (fine_second (places first) (places_among others) fine))

tried_at : (xs : List Atom) (k : ℕ) → AllByRecursion IsTried xs → 1 ≤ tries_of (kind_in (slice_get xs k))
tried_at [] k all = omega arith
tried_at (x ∷ xs) zero all = all.0
tried_at (x ∷ xs) (suc k) all = tried_at xs k all.1

pub accepted_tried : (plan : PlanValue) → first_refusal plan.root plan.store ≡ None → HasAttempts (outline_of plan)
accepted_tried plan is r = tried_at (atoms_of 0 (tree_of plan.root)) r (tried_tree (tree_of plan.root) 0 (accepted_fine plan.root plan.store is))

-- ---- the injects of a tree whose lists are short

abbrev HasShortInjects : Atom → Type 0
HasShortInjects x = AreShortBinds (injected_in x.part)

short_entered : (g i : ℕ) (xs : List Atom) → AllByRecursion HasShortInjects xs → AllByRecursion HasShortInjects (map (enter g i) xs)
short_entered g i [] all = tt
short_entered g i (x ∷ xs) all = (all.0, short_entered g i xs all.1)

retry_short : (g : ℕ) (control : Option Retry) → IsShortControl control → AllByRecursion HasShortInjects (retry_atoms g control)
retry_short g None short = tt
retry_short g (Some r) short = (short, tt)

mutual
  short_tree : (t : Tree) (g : ℕ) → IsShortTree t → AllByRecursion HasShortInjects (atoms_of g t)
  short_tree (task t) g short = (short, tt)
  short_tree (flow head items) g short =
      all_both HasShortInjects (retry_atoms g head.retry) (atoms_among g 0 (suc g) items) (retry_short g head.retry short.0) (short_trees items g 0 (suc g) short.1)

  short_trees : (ts : Trees) (g i n : ℕ) → AreShortTrees ts → AllByRecursion HasShortInjects (atoms_among g i n ts)
  short_trees no_trees g i n short = tt
  short_trees (tree first others) g i n short =
      all_both HasShortInjects (map (enter g i) (atoms_of n first)) (atoms_among g (suc i) (n + flow_count first) others)
      (short_entered g i (atoms_of n first) (short_tree first n short.0)) (short_trees others g (suc i) (n + flow_count first) short.1)

short_at : (xs : List Atom) (k : ℕ) → AllByRecursion HasShortInjects xs → AreShortBinds (injects_in (slice_get xs k))
short_at [] k all = tt
short_at (x ∷ xs) zero all = all.0
short_at (x ∷ xs) (suc k) all = short_at xs k all.1

-- a plan that isn't refused, whose store and tree have short lists
pub accepted_within : (plan : PlanValue) → first_refusal plan.root plan.store ≡ None → AreShortBinds plan.store → IsShortTree (tree_of plan.root) → IsWithinLimits (outline_of plan)
accepted_within plan is store short = record {
  attempts = accepted_tried plan is;
  store = store;
  injects = λ a. short_at (atoms_of 0 (tree_of plan.root)) a (short_tree (tree_of plan.root) 0 short);
}

-- items one by one
pub short_items : (items : List Item) → AllByRecursion (λ item. IsShortTree (item_tree item)) items → AreShortTrees (trees_of (map item_tree items))
short_items [] all = tt
short_items (item ∷ items) all = (all.0, short_items items all.1)

-- a flow whose retry controller and items have short lists
pub flow_short : (f : Flow) (items : List Item) → items ≡ item_list f.items → IsShortControl f.retry → AllByRecursion (λ item. IsShortTree (item_tree item)) items → IsShortTree (tree_of f)
flow_short f items is control all =
    subst IsShortTree (sym (tree_of-flow f)) (control, short_items f.items.items.items (subst (AllByRecursion (λ item. IsShortTree (item_tree item))) is all))
