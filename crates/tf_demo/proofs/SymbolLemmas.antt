-- In a generated flow somebody gives each symbol that is taken: the inject of the task, or the retry controller of its group.
use Rattle.std.proofs.Common.{◌≡◌, ℕ, zero, suc, ◌+◌, ◌-◌, ◌<◌, ◌≤◌, List, [], ◌∷◌, ◌++◌, length, map, drop, Bool, true, false, ◌||◌, Some, None, refl, sym, ap, subst, ◌∙◌, inl, inr, arith, eq-eqb, slice_get}
use Rattle.std.specs.Prelude.{nat_eq, codes, filter, reverse, flat_map, take_while, ◌*◌, ◌%◌}
use Rattle.std.specs.List.{list_any}
use Rattle.std.specs.Cmp.Lexicographic.{bytes_decides}
use Rattle.std.proofs.lemmas.Bool.{cases_lt, ne_eqb}
use Rattle.std.proofs.lemmas.List.Folds.{list_any-append}
use Rattle.std.proofs.lemmas.List.Sums.{take_while-cons}
use Rattle.tf_flow.specs.declared.atoms.Bind.{Bind}
use Rattle.tf_flow.specs.declared.atoms.Task.{Task}
use Rattle.tf_flow.specs.declared.nested.FlowKind.TheVariants as pattern
use Rattle.tf_flow.specs.declared.paths.Turn.{Turn}
use Rattle.tf_flow.specs.Tree.{same_name, is_among, first_some, Tree, Trees, Head, trees_of, tree_of}
use Rattle.tf_flow.specs.Rules.{bind_symbols}
use Rattle.tf_links.specs.Graphs.{standing_items}
use Rattle.tf_values.specs.declared.value.Val.{Val}
use Rattle.tf_flow.specs.Outline.{Atom, FlowPlace, a_task, a_retry, atoms_of, atoms_among, atoms_among_count, enter, flows_among, flows_among_count, flow_place, flow_count, atom_count}
use Rattle.tf_flow.specs.Plan.{PlanValue}
use Rattle.tf_model.specs.Before.{Flow, find_flow, arrange, arranged, linked_pairs, standing_of_item}
use Rattle.tf_model.specs.Plan.{Outline, outline_of, outline_of_tree, count, path, injects, is_before}
use Rattle.tf_model.proofs.Told.{path_in, standing_in, arguments_in, injects_in}
use Rattle.tf_model.specs.Scope.{members, members_in, is_elsewhere, is_earlier, lists_symbol, has_source, missing_argument, missing_of, missing_symbol}
use Rattle.tf_numbers.specs.Numbers.{numbers_below}
use Rattle.tf_numbers.proofs.TruthLemmas.{true_first, true_second, second_false}
use Rattle.tf_demo.specs.Demo.{drawn, after, attempt_name, group_name, pattern_drawn, argument, echo_task, fail_below_task, sum_task, concat_task, task_drawn, tasks_from, retry_of, group_size, group_flow, groups_from, group_count, demo_flow}
use Rattle.tf_demo.proofs.ListLemmas.{none_of_two, none_given, found_last}
use Rattle.tf_demo.proofs.CompileLemmas.{above_zero}
use Rattle.tf_demo.proofs.PlaceLemmas.{by_draw}

itself : (name : List ℕ) → same_name name name ≡ true
itself name = (bytes_decides name name).1 refl

-- ---- the scope of a task

-- the path to an item of an item of the root, and to the retry controller of this
abbrev path_to_task : ℕ → ℕ → ℕ → List Turn
path_to_task item g k = record { flow = 0; item = Some item } ∷ record { flow = g; item = Some k } ∷ []

abbrev path_to_retry : ℕ → ℕ → List Turn
path_to_retry item g = record { flow = 0; item = Some item } ∷ record { flow = g; item = None } ∷ []

-- a task y of a group whose retry controller is r
record IsInGroup (plan : Outline) (group item g k y r : ℕ) (t : Task) : Type 0 where
  below_root : 0 < g
  task_there : slice_get plan.atoms y ≡ Some (record { path = path_to_task item g k; part = a_task t })
  retry_there : slice_get plan.atoms r ≡ Some (record { path = path_to_retry item g; part = a_retry (retry_of group) })
  rest : List ℕ
  stands : standing_in (find_flow plan.flows g) ≡ r ∷ rest

same_number : (g : ℕ) → nat_eq g g ≡ true
same_number g = eq-eqb g g refl

-- the retry controller is before the task
retry_before : (plan : Outline) (group item g k y r : ℕ) (t : Task) → IsInGroup plan group item g k y r t → is_earlier plan y r ≡ true
unfolding is_before
retry_before plan group item g k y r t is = rw (is.task_there, is.retry_there, same_number item, same_number g) refl

-- it stands elsewhere than the task
retry_elsewhere : (plan : Outline) (group item g k y r : ℕ) (t : Task) → IsInGroup plan group item g k y r t → is_elsewhere plan (record { flow = g; item = Some k }) r ≡ true
retry_elsewhere plan group item g k y r t is = rw (is.retry_there, above_zero g is.below_root, second_false (nat_eq g g) false refl) refl

-- it lists the symbol
retry_lists : (plan : Outline) (group item g k y r : ℕ) (t : Task) → IsInGroup plan group item g k y r t → lists_symbol plan (attempt_name group) r ≡ true
retry_lists plan group item g k y r t is = rw is.retry_there (true_first (same_name (attempt_name group) (attempt_name group)) false (itself (attempt_name group)))

taken_first : (test : ℕ → Bool) (x : ℕ) (xs : List ℕ) → test x ≡ true → take_while test (x ∷ xs) ≡ x ∷ take_while test xs
taken_first test x xs is = take_while-cons test x xs ∙ rw is refl

found_in_group : (plan : Outline) (group item g k y r : ℕ) (t : Task) → IsInGroup plan group item g k y r t → list_any (lists_symbol plan (attempt_name group)) (members plan y) ≡ true
unfolding members
found_in_group plan group item g k y r t is =
    let lists = lists_symbol plan (attempt_name group) in
    let turn : Turn = record { flow = g; item = Some k } in
    let around : Turn = record { flow = 0; item = Some item } in
    let here : list_any lists (members_in plan y turn) ≡ true =
    ap (λ (zs : List ℕ). list_any lists (filter (is_earlier plan y) (reverse (take_while (is_elsewhere plan turn) zs)))) is.stands
    ∙ (ap (λ (zs : List ℕ). list_any lists (filter (is_earlier plan y) (reverse zs))) (taken_first (is_elsewhere plan turn) r is.rest (retry_elsewhere plan group item g k y r t is))
    ∙ found_last (is_earlier plan y) lists r (take_while (is_elsewhere plan turn) is.rest) (retry_before plan group item g k y r t is) (retry_lists plan group item g k y r t is)) in
    ap (λ (w : List Turn). list_any lists (flat_map (members_in plan y) (reverse w))) (ap path_in is.task_there)
    ∙ (list_any-append lists (members_in plan y turn) (flat_map (members_in plan y) (around ∷ []))
    ∙ true_first (list_any lists (members_in plan y turn)) (list_any lists (flat_map (members_in plan y) (around ∷ []))) here)

-- ---- no argument of a task is missing

has_injected : (plan : Outline) (group item g k y r : ℕ) (t : Task) (symbol : List ℕ) (v : Val) → IsInGroup plan group item g k y r t → t.inject ≡ record { symbol = symbol; value = v } ∷ [] → has_source plan y symbol ≡ true
has_injected plan group item g k y r t symbol v is inject =
    true_first (is_among (bind_symbols (injects plan y)) symbol) (is_among (bind_symbols plan.store) symbol || list_any (lists_symbol plan symbol) (members plan y))
    (ap (λ (binds : List Bind). is_among (bind_symbols binds) symbol) (ap injects_in is.task_there ∙ inject)
    ∙ true_first (same_name symbol symbol) false (itself symbol))

has_attempt : (plan : Outline) (group item g k y r : ℕ) (t : Task) → IsInGroup plan group item g k y r t → has_source plan y (attempt_name group) ≡ true
has_attempt plan group item g k y r t is =
    true_second (is_among (bind_symbols (injects plan y)) (attempt_name group)) (is_among (bind_symbols plan.store) (attempt_name group) || list_any (lists_symbol plan (attempt_name group)) (members plan y))
    (true_second (is_among (bind_symbols plan.store) (attempt_name group)) (list_any (lists_symbol plan (attempt_name group)) (members plan y)) (found_in_group plan group item g k y r t is))

not_missing : (plan : Outline) (y : ℕ) (symbol : List ℕ) → has_source plan y symbol ≡ true → missing_argument plan y (argument symbol) ≡ None
not_missing plan y symbol is = rw is refl

-- a task that takes its inject alone, and one that takes the symbol of its group before
one_given : (plan : Outline) (group item g k y r : ℕ) (t : Task) (symbol : List ℕ) (v : Val) → t.args ≡ argument symbol ∷ [] → t.inject ≡ record { symbol = symbol; value = v } ∷ []
    → IsInGroup plan group item g k y r t → missing_of plan y ≡ None
one_given plan group item g k y r t symbol v args inject is =
    ap (first_some (missing_argument plan y)) (ap arguments_in is.task_there ∙ args)
    ∙ none_of_two (missing_argument plan y (argument symbol)) None (not_missing plan y symbol (has_injected plan group item g k y r t symbol v is inject)) refl

two_given : (plan : Outline) (group item g k y r : ℕ) (t : Task) (symbol : List ℕ) (v : Val) → t.args ≡ argument (attempt_name group) ∷ argument symbol ∷ [] → t.inject ≡ record { symbol = symbol; value = v } ∷ []
    → IsInGroup plan group item g k y r t → missing_of plan y ≡ None
two_given plan group item g k y r t symbol v args inject is =
    ap (first_some (missing_argument plan y)) (ap arguments_in is.task_there ∙ args)
    ∙ none_of_two (missing_argument plan y (argument (attempt_name group))) (first_some (missing_argument plan y) (argument symbol ∷ [])) (not_missing plan y (attempt_name group) (has_attempt plan group item g k y r t is))
    (none_of_two (missing_argument plan y (argument symbol)) None (not_missing plan y symbol (has_injected plan group item g k y r t symbol v is inject)) refl)

task_complete : (plan : Outline) (group item g k y r number draw : ℕ) → IsInGroup plan group item g k y r (task_drawn group number draw) → missing_of plan y ≡ None
task_complete plan group item g k y r number draw =
    by_draw (λ t. IsInGroup plan group item g k y r t → missing_of plan y ≡ None) group number draw
    (one_given plan group item g k y r (echo_task number) (codes "value") _ refl refl)
    (two_given plan group item g k y r (fail_below_task group number) (codes "limit") _ refl refl)
    (two_given plan group item g k y r (sum_task group number) (codes "k") _ refl refl)
    (two_given plan group item g k y r (concat_task group number) (codes "text") _ refl refl)

-- ---- lists from a place on

from_place : {X : Type 0} (xs : List X) (a y k : ℕ) → a + k ≡ y → slice_get (drop a xs) k ≡ slice_get xs y
from_place xs zero y k e = let same : k ≡ y = omega (arith, e) in ap (slice_get xs) same
from_place [] (suc a) y k e = refl
from_place (x ∷ xs) (suc a) zero k e = absurd (omega (arith, e))
from_place (x ∷ xs) (suc a) (suc y) k e = from_place xs a y k (omega (arith, e))

further : {X : Type 0} (xs : List X) (a b c : ℕ) → a + b ≡ c → drop c xs ≡ drop b (drop a xs)
further xs zero b c e = let same : c ≡ b = omega (arith, e) in ap (λ (n : ℕ). drop n xs) same
further [] (suc a) zero zero e = refl
further [] (suc a) zero (suc c) e = refl
further [] (suc a) (suc b) zero e = refl
further [] (suc a) (suc b) (suc c) e = refl
further (x ∷ xs) (suc a) b zero e = absurd (omega (arith, e))
further (x ∷ xs) (suc a) b (suc c) e = further xs a b c (omega (arith, e))

behind : {X : Type 0} (xs ys : List X) (n : ℕ) → length xs ≡ n → drop n (xs ++ ys) ≡ ys
behind [] ys zero e = refl
behind [] ys (suc n) e = absurd (omega (arith, e))
behind (x ∷ xs) ys zero e = absurd (omega (arith, e))
behind (x ∷ xs) ys (suc n) e = behind xs ys n (omega (arith, e))

-- ---- the tasks of a group

abbrev tasks_of : ℕ → ℕ → ℕ → ℕ → Trees
tasks_of group left number state = trees_of (tasks_from group left number state)

abbrev task_atoms : ℕ → ℕ → ℕ → ℕ → Trees → List Atom
task_atoms item n place m tasks = map (enter 0 item) (atoms_among n place m tasks)

-- a task of the group stands there
record IsTaskAt (atoms : List Atom) (p group item n : ℕ) : Type 0 where
  place : ℕ
  number : ℕ
  draw : ℕ
  is : slice_get atoms p ≡ Some (record { path = path_to_task item n place; part = a_task (task_drawn group number draw) })

task_at : (item n place m group left number state : ℕ) (more : List Atom) (p : ℕ) → p < left → IsTaskAt (task_atoms item n place m (tasks_of group left number state) ++ more) p group item n
task_at item n place m group zero number state more p within = absurd (omega (arith, within))
task_at item n place m group (suc left) number state more zero within = record { place = place; number = number; draw = drawn state % 4; is = refl }
task_at item n place m group (suc left) number state more (suc p) within =
    let later = task_at item n (suc place) (m + 0) group left (suc number) (drawn state) more p (omega (arith, within)) in
    record { place = later.place; number = later.number; draw = later.draw; is = later.is }

task_atoms_counted : (item n place m group left number state : ℕ) → length (task_atoms item n place m (tasks_of group left number state)) ≡ left
task_atoms_counted item n place m group zero number state = refl
task_atoms_counted item n place m group (suc left) number state = ap suc (task_atoms_counted item n (suc place) (m + 0) group left (suc number) (drawn state))

tasks_counted : (group left number state : ℕ) → atoms_among_count (tasks_of group left number state) ≡ left
tasks_counted group zero number state = refl
tasks_counted group (suc left) number state = let rest = tasks_counted group left (suc number) (drawn state) in omega (arith, rest)

no_flow_counted : (group left number state : ℕ) → flows_among_count (tasks_of group left number state) ≡ 0
no_flow_counted group zero number state = refl
no_flow_counted group (suc left) number state = let rest = no_flow_counted group left (suc number) (drawn state) in omega (arith, rest)

no_flows : (n a group left number state : ℕ) → flows_among n a (tasks_of group left number state) ≡ []
no_flows n a group zero number state = refl
no_flows n a group (suc left) number state = no_flows (n + 0) (a + 1) group left (suc number) (drawn state)

-- ---- flows by their numbers

-- the first atom of a flow in standing order
record StandsFirst (standing : List ℕ) (r : ℕ) : Type 0 where
  rest : List ℕ
  is : standing ≡ r ∷ rest

stands_first : (atoms : List Atom) (inner : List Flow) (place : FlowPlace) (g r : ℕ) → place.number ≡ g → place.retry ≡ Some r → StandsFirst (standing_in (find_flow (arrange atoms inner place ∷ inner) g)) r
stands_first atoms inner place g r numbered retry = record {
  rest = flat_map (standing_of_item inner place) (standing_items (length place.items) (linked_pairs atoms inner place));
  is = rw (eq-eqb place.number g numbered, retry) refl;
}

passed_over : (atoms : List Atom) (place : FlowPlace) (places : List FlowPlace) (g : ℕ) → nat_eq place.number g ≡ false → find_flow (arranged atoms (place ∷ places)) g ≡ find_flow (arranged atoms places) g
passed_over atoms place places g other = rw other refl

-- ---- the groups

-- from atom a, flow n and this item of the root on, the outline has these trees
record HasLeft (plan : Outline) (a n item : ℕ) (left : Trees) : Type 0 where
  below_root : 0 < n
  atoms_left : drop a plan.atoms ≡ atoms_among 0 item n left
  flows_left : (g : ℕ) → n ≤ g → find_flow plan.flows g ≡ find_flow (arranged plan.atoms (flows_among n a left)) g

no_atom : (plan : Outline) (y : ℕ) → slice_get plan.atoms y ≡ None → missing_of plan y ≡ None
no_atom plan y is = ap (first_some (missing_argument plan y)) (ap arguments_in is)

a_retry_there : (plan : Outline) (y group : ℕ) (path : List Turn) → slice_get plan.atoms y ≡ Some (record { path = path; part = a_retry (retry_of group) }) → missing_of plan y ≡ None
a_retry_there plan y group path is = ap (first_some (missing_argument plan y)) (ap arguments_in is)

-- a group and what is left behind it
abbrev groups_of : ℕ → ℕ → ℕ → ℕ → Trees
groups_of size left group state = trees_of (groups_from size left group state)

abbrev group_head : ℕ → ℕ → Head
group_head group state = record { name = group_name group; kind = pattern_drawn (drawn state % 3); retry = Some (retry_of group); links = [] }

group_counted : (size group state : ℕ) → (atom_count (group_flow size group state) ≡ suc (group_size size group)) × (flow_count (group_flow size group state) ≡ 1)
group_counted size group state =
    let tasks = tasks_counted group (group_size size group) (10 * group) (drawn state) in
    let flows = no_flow_counted group (group_size size group) (10 * group) (drawn state) in
    (omega (arith, tasks), omega (arith, flows))

-- the flows behind a group are found behind it
flows_behind : (plan : Outline) (size left group state a n item : ℕ) → HasLeft plan a n item (groups_of size (suc left) group state)
    → (g : ℕ) → n + flow_count (group_flow size group state) ≤ g
    → find_flow plan.flows g ≡ find_flow (arranged plan.atoms (flows_among (n + flow_count (group_flow size group state)) (a + atom_count (group_flow size group state)) (groups_of size left (suc group) (after (1 + group_size size group) state)))) g
flows_behind plan size left group state a n item has g from =
    let counted = (group_counted size group state).1 in
    let later = flows_among (n + flow_count (group_flow size group state)) (a + atom_count (group_flow size group state)) (groups_of size left (suc group) (after (1 + group_size size group) state)) in
    let tasks = flows_among (suc n) (a + 1) (tasks_of group (group_size size group) (10 * group) (drawn state)) in
    has.flows_left g (omega (arith, from))
    ∙ (passed_over plan.atoms (flow_place n a (group_head group state) (tasks_of group (group_size size group) (10 * group) (drawn state))) (tasks ++ later) g (ne_eqb n g (λ same. absurd (omega (arith, same, from, counted))))
    ∙ ap (λ (places : List FlowPlace). find_flow (arranged plan.atoms (places ++ later)) g) (no_flows (suc n) (a + 1) group (group_size size group) (10 * group) (drawn state)))

-- so are the atoms
atoms_behind : (plan : Outline) (size left group state a n item : ℕ) → HasLeft plan a n item (groups_of size (suc left) group state)
    → drop (a + atom_count (group_flow size group state)) plan.atoms ≡ atoms_among 0 (suc item) (n + flow_count (group_flow size group state)) (groups_of size left (suc group) (after (1 + group_size size group) state))
atoms_behind plan size left group state a n item has =
    let first = map (enter 0 item) (atoms_of n (group_flow size group state)) in
    let later = atoms_among 0 (suc item) (n + flow_count (group_flow size group state)) (groups_of size left (suc group) (after (1 + group_size size group) state)) in
    let counted = (group_counted size group state).0 in
    let tasks = task_atoms_counted item n 0 (suc n) group (group_size size group) (10 * group) (drawn state) in
    further plan.atoms a (atom_count (group_flow size group state)) (a + atom_count (group_flow size group state)) refl
    ∙ (ap (drop (atom_count (group_flow size group state))) has.atoms_left
    ∙ behind first later (atom_count (group_flow size group state)) (omega (arith, counted, tasks)))

-- a task of the first group that is left
in_first : (plan : Outline) (size left group state a n item : ℕ) → HasLeft plan a n item (groups_of size (suc left) group state)
    → (p : ℕ) → p < group_size size group → missing_of plan (suc (a + p)) ≡ None
in_first plan size left group state a n item has p within =
    let later = atoms_among 0 (suc item) (n + flow_count (group_flow size group state)) (groups_of size left (suc group) (after (1 + group_size size group) state)) in
    let found = task_at item n 0 (suc n) group (group_size size group) (10 * group) (drawn state) later p within in
    let inner = arranged plan.atoms (flows_among (suc n) (a + 1) (tasks_of group (group_size size group) (10 * group) (drawn state)) ++ flows_among (n + flow_count (group_flow size group state)) (a + atom_count (group_flow size group state)) (groups_of size left (suc group) (after (1 + group_size size group) state))) in
    let stands = stands_first plan.atoms inner (flow_place n a (group_head group state) (tasks_of group (group_size size group) (10 * group) (drawn state))) n a refl refl in
    task_complete plan group item n found.place (suc (a + p)) a found.number found.draw (record {
      below_root = has.below_root;
      task_there = sym (from_place plan.atoms a (suc (a + p)) (suc p) (omega arith)) ∙ (ap (λ (atoms : List Atom). slice_get atoms (suc p)) has.atoms_left ∙ found.is);
      retry_there = sym (from_place plan.atoms a a 0 (omega arith)) ∙ ap (λ (atoms : List Atom). slice_get atoms 0) has.atoms_left;
      rest = stands.rest;
      stands = ap standing_in (has.flows_left n (omega arith)) ∙ stands.is;
    })

groups_complete : (plan : Outline) (size left group state a n item : ℕ) → HasLeft plan a n item (groups_of size left group state) → (y : ℕ) → a ≤ y → missing_of plan y ≡ None
groups_complete plan size zero group state a n item has y from =
    no_atom plan y (sym (from_place plan.atoms a y (y - a) (omega (arith, from))) ∙ ap (λ (atoms : List Atom). slice_get atoms (y - a)) has.atoms_left)
groups_complete plan size (suc left) group state a n item has y from =
    let counted = group_counted size group state in
    let atoms = counted.0 in
    let flows = counted.1 in
    let below_root = has.below_root in
    elim (cases_lt a y) [
      | inr last ↦
          let same : a ≡ y = omega (arith, from, last) in
          a_retry_there plan y group (path_to_retry item n) (sym (from_place plan.atoms a y 0 (omega (arith, same))) ∙ ap (λ (atoms : List Atom). slice_get atoms 0) has.atoms_left)
      | inl past ↦ elim (cases_lt (y - suc a) (group_size size group)) [
        | inl within ↦
            let same : suc (a + (y - suc a)) ≡ y = omega (arith, past) in
            subst (λ (z : ℕ). missing_of plan z ≡ None) same (in_first plan size left group state a n item has (y - suc a) within)
        | inr beyond ↦
            groups_complete plan size left (suc group) (after (1 + group_size size group) state) (a + atom_count (group_flow size group state)) (n + flow_count (group_flow size group state)) (suc item)
            (record {
              below_root = omega (arith, below_root);
              atoms_left = atoms_behind plan size left group state a n item has;
              flows_left = flows_behind plan size left group state a n item has;
            }) y (omega (arith, beyond, past, atoms))
      ]
    ]

-- ---- the generated flow

demo_complete : (seed size : ℕ) (store : List Bind) (defer : Bool) → missing_symbol (outline_of_tree (demo_flow seed size) store defer) ≡ None
unfolding demo_flow
demo_complete seed size store defer =
    none_given (missing_of plan) (numbers_below (count plan))
    (λ y. groups_complete plan size (group_count size) 0 seed 0 1 0 (record {
      below_root = omega arith;
      atoms_left = refl;
      flows_left = λ g from. passed_over plan.atoms (flow_place 0 0 (record { name = codes "demo"; kind = pattern.Linear; retry = None; links = [] }) (groups_of size (group_count size) 0 seed)) (flows_among 1 0 (groups_of size (group_count size) 0 seed)) g (above_zero g from);
    }) y (omega arith))
  where
    plan : Outline
    plan = outline_of_tree (demo_flow seed size) store defer

pub complete : (seed size : ℕ) (plan : PlanValue) → tree_of plan.root ≡ demo_flow seed size → missing_symbol (outline_of plan) ≡ None
complete seed size plan is = subst (λ (root : Tree). missing_symbol (outline_of_tree root plan.store plan.defer) ≡ None) (sym is) (demo_complete seed size plan.store plan.defer)
