-- The orders of a plan that isn't refused are whole.
use Rattle.std.proofs.Common.{◌≡◌, ℕ, zero, suc, ◌+◌, ◌≤◌, List, [], ◌∷◌, ◌++◌, length, map, Bool, true, false, ◌||◌, Option, Some, None, refl, sym, ap, ◌∙◌, inl, inr, arith, slice_get}
use Rattle.std.specs.Option.{option_map}
use Rattle.std.specs.Prelude.{if◌then◌else◌, nat_lt}
use Rattle.std.specs.List.{AllByRecursion}
use Rattle.std.proofs.lemmas.Bool.{lt-ltb, cases_lt}
use Rattle.std.proofs.lemmas.List.{length-map}
use Rattle.tf_values.specs.declared.value.Val.{Val}
use Rattle.tf_flow.specs.declared.atoms.Arg.{Arg}
use Rattle.tf_flow.specs.declared.atoms.Bind.{Bind}
use Rattle.tf_flow.specs.declared.atoms.Retry.{Retry}
use Rattle.tf_flow.specs.declared.atoms.Task.{Task}
use Rattle.tf_flow.specs.declared.atoms.Undo.{Undo}
use Rattle.tf_flow.specs.declared.atoms.Undo.TheVariants as undo
use Rattle.tf_flow.specs.declared.faults.Limit.{Limit}
use Rattle.tf_flow.specs.declared.faults.Limit.TheVariants as limit
use Rattle.tf_flow.specs.declared.faults.PlanFault.{PlanFault}
use Rattle.tf_flow.specs.declared.faults.PlanFault.TheVariants as fault
use Rattle.tf_flow.specs.declared.nested.Flow.{Flow}
use Rattle.tf_flow.specs.Limits.{too_large, limit_fault, capped, passing, passing_at, undo_words}
use Rattle.tf_flow.specs.Tree.{first_some, has_twice, Place, at_task, name_at, places, places_among, retry_places, tree_order, Tree, Trees, task, flow, no_trees, tree, tree_of, nesting}
use Rattle.tf_flow.specs.Plan.{PlanValue}
use Rattle.tf_flow.specs.Rules.{empty, duplicate, unknown, bad_link, bad_atom, broken_rule, first_refusal, is_bad_atom, bad_atom_at, bind_symbols, least_arguments, has_wrong_words, runs_nothing, repeats_itself}
use Rattle.tf_flow.specs.Outline.{Atom, Part, a_task, a_retry, atoms_of, atoms_among, retry_atoms, enter, flow_count}
use Rattle.tf_actions.specs.declared.orders.Given.{Given}
use Rattle.tf_actions.specs.declared.orders.Given.TheVariants as given
use Rattle.tf_actions.specs.declared.orders.Pair.{Pair}
use Rattle.tf_actions.specs.declared.outcomes.Action.{Action}
use Rattle.tf_actions.specs.declared.outcomes.Action.TheVariants as action
use Rattle.tf_actions.specs.Gives.{HasFewWords, IsGivenEnough, IsWhole}
use Rattle.tf_model.specs.Plan.{Outline, outline_of, arguments}
use Rattle.tf_model.specs.Scope.{task_part, task_at, order_with, order_of, symbol_value, or_missing, given_arguments, argument_to_revert, given_for}
use Rattle.tf_model.proofs.Told.{arguments_in, task_in}
use Rattle.tf_model.specs.History.{Snapshot}
use Rattle.tf_model.proofs.PathLemmas.{all_both}
use Rattle.tf_numbers.proofs.TruthLemmas.{clash, neither_first, neither_second}
use Rattle.tf_numbers.proofs.OptionLemmas.{none_mapped, neither_there, none_if}

-- ---- nothing is refused at a task

then_none : (b : Bool) (x : List ℕ) (y : Option (List ℕ)) → (if b then Some x else y) ≡ None → y ≡ None
then_none true x y is = absurd (cc)
then_none false x y is = is

-- a place where no rule of atoms is broken, and no limit of arguments or words is passed
abbrev IsFine : Place → Type 0
IsFine place = (is_bad_atom place ≡ false) × (passing_at limit.Arguments place ≡ None) × (passing_at limit.Words place ≡ None)

all_fine : (order : List Place) → first_some bad_atom_at order ≡ None → first_some (passing_at limit.Arguments) order ≡ None → first_some (passing_at limit.Words) order ≡ None → AllByRecursion IsFine order
all_fine [] rules arguments words = tt
all_fine (place ∷ order) rules arguments words =
    let one = neither_there (bad_atom_at place) (first_some bad_atom_at order) rules in
    let two = neither_there (passing_at limit.Arguments place) (first_some (passing_at limit.Arguments) order) arguments in
    let three = neither_there (passing_at limit.Words place) (first_some (passing_at limit.Words) order) words in
    ((none_if (is_bad_atom place) (name_at place) one.0, two.0, three.0), all_fine order one.1 two.1 three.1)

-- the limits of atoms, where no limit is passed
limits_kept : (deep : ℕ) (order : List Place) (store : List Bind) → too_large deep order store ≡ None → (first_some (passing_at limit.Arguments) order ≡ None) × (first_some (passing_at limit.Words) order ≡ None)
limits_kept deep order store is =
    let at : Limit → Option PlanFault = limit_fault deep order store in
    let after_nesting = neither_there (at limit.Nesting) _ is in
    let after_atoms = neither_there (at limit.Atoms) _ after_nesting.1 in
    let after_flows = neither_there (at limit.Flows) _ after_atoms.1 in
    let after_links = neither_there (at limit.Links) _ after_flows.1 in
    let after_arguments = neither_there (at limit.Arguments) _ after_links.1 in
    let after_injects = neither_there (at limit.Injects) _ after_arguments.1 in
    let after_provided = neither_there (at limit.Provided) _ after_injects.1 in
    let after_words = neither_there (at limit.Words) _ after_provided.1 in (
      none_mapped (λ (n : ℕ). fault.TooLarge limit.Arguments n) (first_some (passing_at limit.Arguments) order) after_arguments.0,
      none_mapped (λ (n : ℕ). fault.TooLarge limit.Words n) (first_some (passing_at limit.Words) order) after_words.0,
    )

rules_kept : (root : Flow) (store : List Bind) → broken_rule root.name store (tree_order root) ≡ None → first_some bad_atom_at (tree_order root) ≡ None
rules_kept root store is =
    let order = tree_order root in
    let one = neither_there (empty order) _ is in
    let two = neither_there (duplicate order) _ one.1 in
    let three = neither_there (unknown order) _ two.1 in
    let four = neither_there (bad_link order) (bad_atom root.name store order) three.1 in
    then_none (has_twice (bind_symbols store)) root.name (first_some bad_atom_at order) (none_mapped (λ (name : List ℕ). fault.BadAtom name) _ four.1)

accepted_fine : (root : Flow) (store : List Bind) → first_refusal root store ≡ None → AllByRecursion IsFine (tree_order root)
accepted_fine root store is =
    let order = tree_order root in
    let parts = neither_there (too_large (capped (nesting (tree_of root))) order store) (broken_rule root.name store order) is in
    let limit = limits_kept (capped (nesting (tree_of root))) order store parts.0 in
    all_fine order (rules_kept root store parts.1) limit.0 limit.1

-- ---- so it is with the tasks among its atoms

abbrev IsFinePart : Part → Type 0
IsFinePart (a_task t) = IsFine (at_task t)
IsFinePart (a_retry r) = Unit {0}

abbrev IsFineAtom : Atom → Type 0
IsFineAtom x = IsFinePart x.part

entered_fine : (g i : ℕ) (xs : List Atom) → AllByRecursion IsFineAtom xs → AllByRecursion IsFineAtom (map (enter g i) xs)
entered_fine g i [] all = tt
entered_fine g i (x ∷ xs) all = (all.0, entered_fine g i xs all.1)

retry_fine : (g : ℕ) (control : Option Retry) → AllByRecursion IsFineAtom (retry_atoms g control)
retry_fine g None = tt
retry_fine g (Some r) = (tt, tt)

fine_second : (xs ys : List Place) → AllByRecursion IsFine (xs ++ ys) → AllByRecursion IsFine ys
fine_second [] ys all = all
fine_second (x ∷ xs) ys all = fine_second xs ys all.1

fine_first : (xs ys : List Place) → AllByRecursion IsFine (xs ++ ys) → AllByRecursion IsFine xs
fine_first [] ys all = tt
fine_first (x ∷ xs) ys all = (all.0, fine_first xs ys all.1)

mutual
  fine_tree : (t : Tree) (g : ℕ) → AllByRecursion IsFine (places t) → AllByRecursion IsFineAtom (atoms_of g t)
  fine_tree (task t) g fine = (fine.0, tt)
  fine_tree (flow head items) g fine =
      all_both IsFineAtom (retry_atoms g head.retry) (atoms_among g 0 (suc g) items) (retry_fine g head.retry)
      (fine_trees items g 0 (suc g) (fine_second (retry_places head.retry) (places_among items) fine.1))

  fine_trees : (ts : Trees) (g i n : ℕ) → AllByRecursion IsFine (places_among ts) → AllByRecursion IsFineAtom (atoms_among g i n ts)
  fine_trees no_trees g i n fine = tt
  fine_trees (tree first others) g i n fine =
      all_both IsFineAtom (map (enter g i) (atoms_of n first)) (atoms_among g (suc i) (n + flow_count first) others)
      (entered_fine g i (atoms_of n first) (fine_tree first n (fine_first (places first) (places_among others) fine)))
      (fine_trees others g (suc i) (n + flow_count first) (fine_second (places first) (places_among others) fine))

part_fine : (p : Part) (t : Task) → IsFinePart p → task_part p ≡ Some t → IsFine (at_task t)
part_fine (a_task u) t fine is = let same : u ≡ t = cc in Rattle.std.proofs.Common.subst (λ (v : Task). IsFine (at_task v)) same fine
part_fine (a_retry r) t fine is = absurd (cc)

fine_at : (xs : List Atom) (k : ℕ) (t : Task) → AllByRecursion IsFineAtom xs → task_in (slice_get xs k) ≡ Some t → IsFine (at_task t)
fine_at [] k t all is = absurd (cc)
fine_at (x ∷ xs) zero t all is = part_fine x.part t all.0 is
fine_at (x ∷ xs) (suc k) t all is = fine_at xs k t all.1 is

task_fine : (plan : PlanValue) (a : ℕ) (t : Task) → first_refusal plan.root plan.store ≡ None → task_at (outline_of plan) a ≡ Some t → IsFine (at_task t)
task_fine plan a t accepted is = fine_at (atoms_of 0 (tree_of plan.root)) a t (fine_tree (tree_of plan.root) 0 (accepted_fine plan.root plan.store accepted)) is

-- ---- what that says in numbers

within : (most n : ℕ) → passing most n ≡ None → n ≤ most
within most n is = elim (cases_lt most n) [
  | inl above ↦ absurd (clash (nat_lt most n) (lt-ltb most n above) (by (nat_lt most n) is))
  | inr kept ↦ kept
]
  where
    by : (b : Bool) → (if b then Some n else None) ≡ None → b ≡ false
    by true none = absurd (cc)
    by false none = refl

not_less : (n least : ℕ) → nat_lt n least ≡ false → least ≤ n
not_less n least is = elim (cases_lt n least) [
  | inl less ↦ absurd (clash (nat_lt n least) (lt-ltb n least less) is)
  | inr enough ↦ enough
]

few_words : (u : Undo) → passing 64 (length (undo_words u)) ≡ None → HasFewWords u
few_words undo.Pass is = tt
few_words undo.Fail is = tt
few_words (undo.Run words) is = within 64 (length words) is

-- ---- what is given

one_longer : (arg : Arg) (v : Option Val) (rest : Given) (n : ℕ) (pairs : List Pair) → ((others : List Pair) → rest ≡ given.Found others → length others ≡ n) → or_missing arg v rest ≡ given.Found pairs → length pairs ≡ suc n
one_longer arg None rest n pairs each gives = absurd (cc)
one_longer arg (Some x) (given.Missing symbol) n pairs each gives = absurd (cc)
one_longer arg (Some x) (given.Found others) n pairs each gives =
    let same : (record { name = arg.name; value = x } ∷ others) ≡ pairs = cc in
    ap length (sym same) ∙ ap suc (each others refl)

given_length : (plan : Outline) (s : Snapshot) (a : ℕ) (args : List Arg) (pairs : List Pair) → given_arguments plan s a args ≡ given.Found pairs → length pairs ≡ length args
given_length plan s a [] pairs is = let same : [] ≡ pairs = cc in ap length (sym same)
given_length plan s a (arg ∷ args) pairs is = one_longer arg (symbol_value plan s a arg.symbol) (given_arguments plan s a args) (length args) pairs (given_length plan s a args) is

enough : (plan : Outline) (s : Snapshot) (a : ℕ) (how : Action) (t : Task) → arguments plan a ≡ t.args → least_arguments t.kind ≤ length t.args → length t.args ≤ 64 → IsGivenEnough how t.kind (given_for plan s a how)
enough plan s a action.Execute t args least most = by (given_arguments plan s a (arguments plan a)) refl
  where
    by : (g : Given) → given_arguments plan s a (arguments plan a) ≡ g → IsGivenEnough action.Execute t.kind g
    by (given.Missing symbol) is = tt
    by (given.Found pairs) is =
        let as_many : length pairs ≡ length t.args = given_length plan s a (arguments plan a) pairs is ∙ ap length args in
        (omega (arith, as_many, least), omega (arith, as_many, most))
enough plan s a action.Revert t args least most =
    let as_many : length (map (argument_to_revert plan s a) (arguments plan a)) ≡ length t.args = length-map (arguments plan a) (argument_to_revert plan s a) ∙ ap length args in
    omega (arith, as_many, most)

arguments_by : (o : Option Atom) (t : Task) → task_in o ≡ Some t → arguments_in o ≡ t.args
arguments_by None t is = absurd (cc)
arguments_by (Some x) t is = by x.part is
  where
    by : (p : Part) → task_part p ≡ Some t → Rattle.tf_flow.specs.Outline.arguments_of p ≡ t.args
    by (a_task u) told = let same : u ≡ t = cc in ap (λ (v : Task). v.args) same
    by (a_retry r) told = absurd (cc)

-- the order to do so with a task of a plan that isn't refused is whole
pub order_whole : (plan : PlanValue) (s : Snapshot) (a : ℕ) (how : Action) (t : Task) → first_refusal plan.root plan.store ≡ None → task_at (outline_of plan) a ≡ Some t → IsWhole (order_with a how (given_for (outline_of plan) s a how) t)
order_whole plan s a how t accepted is =
    let fine = task_fine plan a t accepted is in
    let words = neither_there (passing 64 (length t.words)) (passing 64 (length (undo_words t.undo))) fine.2 in
    let three = neither_first ((nat_lt (length t.args) (least_arguments t.kind) || has_wrong_words t.kind t.words) || runs_nothing t.undo) (repeats_itself t.args t.inject t.provides) fine.0 in
    let two = neither_first (nat_lt (length t.args) (least_arguments t.kind) || has_wrong_words t.kind t.words) (runs_nothing t.undo) three in
    record {
      words = neither_second (nat_lt (length t.args) (least_arguments t.kind)) (has_wrong_words t.kind t.words) two;
      few_words = within 64 (length t.words) words.0;
      undo = neither_second (nat_lt (length t.args) (least_arguments t.kind) || has_wrong_words t.kind t.words) (runs_nothing t.undo) three;
      few_undo_words = few_words t.undo words.1;
      given = enough (outline_of plan) s a how t (arguments_by (slice_get (outline_of plan).atoms a) t is)
          (not_less (length t.args) (least_arguments t.kind) (neither_first (nat_lt (length t.args) (least_arguments t.kind)) (has_wrong_words t.kind t.words) two)) (within 64 (length t.args) fine.1);
    }

-- it is the order of the model
pub order_told : (plan : Outline) (s : Snapshot) (a : ℕ) (how : Action) (t : Task) → task_at plan a ≡ Some t → Some (order_with a how (given_for plan s a how) t) ≡ order_of plan s a how
unfolding order_of
order_told plan s a how t is = ap (option_map (order_with a how (given_for plan s a how))) (sym is)
