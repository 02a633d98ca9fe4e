-- The generated flow passes no limit and breaks no rule of plans.
use Rattle.std.proofs.Common.{◌≡◌, ℕ, zero, suc, ◌+◌, ◌*◌, ◌<◌, ◌≤◌, ◌^◌, List, [], ◌∷◌, ◌++◌, length, map, filter, false, Option, Some, None, refl, sym, subst, ◌∙◌, arith}
use Rattle.std.specs.Prelude.{sum_by, ◌%◌, codes, if◌then◌else◌}
use Rattle.std.specs.List.{list_any, AllByRecursion}
use Rattle.std.specs.Option.{option_or}
use Rattle.std.proofs.lemmas.Bool.{le-ltb}
use Rattle.std.proofs.lemmas.List.Sums.{sum_by-cons}
use Rattle.tf_flow.specs.declared.faults.Limit.{Limit}
use Rattle.tf_flow.specs.declared.faults.Limit.TheVariants as limit
use Rattle.tf_flow.specs.declared.faults.PlanFault.{PlanFault}
use Rattle.tf_flow.specs.declared.faults.PlanFault.TheVariants as fault
use Rattle.tf_flow.specs.declared.nested.Flow.{Flow}
use Rattle.tf_flow.specs.declared.nested.FlowKind.TheVariants as pattern
use Rattle.tf_flow.specs.Limits.{place_len, plan_len, passing, capped, passed, passing_at, limit_fault, limits, too_large, link_count}
use Rattle.tf_flow.specs.Tree.{same_name, first_some, first_again, first_again_after, Place, at_flow, places, places_among, members_of, name_at, is_atom, is_flow, Tree, trees_of, nesting, tree_of}
use Rattle.tf_flow.specs.Rules.{first_refusal, broken_rule, empty, duplicate, unknown, bad_link, unknown_at, bad_link_at, bad_atom_at, has_none}
use Rattle.tf_demo.specs.Demo.{drawn, after, group_name, retry_name, task_name, task_drawn, tasks_from, group_size, groups_from, group_count, demo_flow}
use Rattle.tf_demo.proofs.ListLemmas.{none_of_two, all_of_both}
use Rattle.tf_demo.proofs.NameLemmas.{other_number}
use Rattle.tf_demo.proofs.PlaceLemmas.{by_draw, IsFine, level_fine, groups_fine, groups_atoms, groups_flows, groups_deep, groups_bytes, groups_members, small_group}

-- ---- no name stands twice

-- a name that stands before: the root's, or that of a group, of a retry controller or of a task with a lower number
pub data IsEarlier (groups retries tasks : ℕ) (name : List ℕ) : Type 0 where
  of_root : name ≡ codes "demo" → IsEarlier groups retries tasks name
  of_group : (n : ℕ) → n < groups → name ≡ group_name n → IsEarlier groups retries tasks name
  of_retry : (n : ℕ) → n < retries → name ≡ retry_name n → IsEarlier groups retries tasks name
  of_task : (n : ℕ) → n < tasks → name ≡ task_name n → IsEarlier groups retries tasks name

later_still : (groups retries tasks more_groups more_retries more_tasks : ℕ) → groups ≤ more_groups → retries ≤ more_retries → tasks ≤ more_tasks → (name : List ℕ) → IsEarlier groups retries tasks name → IsEarlier more_groups more_retries more_tasks name
later_still groups retries tasks more_groups more_retries more_tasks gs rs ts name (of_root e) = of_root e
later_still groups retries tasks more_groups more_retries more_tasks gs rs ts name (of_group n less e) = of_group n (omega (arith, less, gs)) e
later_still groups retries tasks more_groups more_retries more_tasks gs rs ts name (of_retry n less e) = of_retry n (omega (arith, less, rs)) e
later_still groups retries tasks more_groups more_retries more_tasks gs rs ts name (of_task n less e) = of_task n (omega (arith, less, ts)) e

all_later : (P Q : List ℕ → Type 0) (names : List (List ℕ)) → ((name : List ℕ) → P name → Q name) → AllByRecursion P names → AllByRecursion Q names
all_later P Q [] each all = tt
all_later P Q (name ∷ names) each all = (each name all.0, all_later P Q names each all.1)

new_group : (groups retries tasks n : ℕ) → groups ≤ n → n < 2 ^ 64 → (name : List ℕ) → IsEarlier groups retries tasks name → same_name (group_name n) name ≡ false
new_group groups retries tasks n from fits name (of_root e) = rw e refl
new_group groups retries tasks n from fits name (of_group m less e) = rw e (other_number 103 n m fits (omega (arith, less, from, fits)) (λ same. absurd (omega (arith, same, less, from))))
new_group groups retries tasks n from fits name (of_retry m less e) = rw e refl
new_group groups retries tasks n from fits name (of_task m less e) = rw e refl

new_retry : (groups retries tasks n : ℕ) → retries ≤ n → n < 2 ^ 64 → (name : List ℕ) → IsEarlier groups retries tasks name → same_name (retry_name n) name ≡ false
new_retry groups retries tasks n from fits name (of_root e) = rw e refl
new_retry groups retries tasks n from fits name (of_group m less e) = rw e refl
new_retry groups retries tasks n from fits name (of_retry m less e) = rw e (other_number 114 n m fits (omega (arith, less, from, fits)) (λ same. absurd (omega (arith, same, less, from))))
new_retry groups retries tasks n from fits name (of_task m less e) = rw e refl

new_task : (groups retries tasks n : ℕ) → tasks ≤ n → n < 2 ^ 64 → (name : List ℕ) → IsEarlier groups retries tasks name → same_name (task_name n) name ≡ false
new_task groups retries tasks n from fits name (of_root e) = rw e refl
new_task groups retries tasks n from fits name (of_group m less e) = rw e refl
new_task groups retries tasks n from fits name (of_retry m less e) = rw e refl
new_task groups retries tasks n from fits name (of_task m less e) = rw e (other_number 116 n m fits (omega (arith, less, from, fits)) (λ same. absurd (omega (arith, same, less, from))))

unseen : (P : List ℕ → Type 0) (name : List ℕ) (seen : List (List ℕ)) → ((other : List ℕ) → P other → same_name name other ≡ false) → AllByRecursion P seen → list_any (same_name name) seen ≡ false
unseen P name [] differs all = refl
unseen P name (other ∷ seen) differs all = rw (differs other all.0) (unseen P name seen differs all.1)

-- a name that was not seen, and after which none stands twice
goes_on : (name : List ℕ) (seen names : List (List ℕ)) → list_any (same_name name) seen ≡ false → first_again_after same_name (seen ++ name ∷ []) names ≡ None → first_again_after same_name seen (name ∷ names) ≡ None
goes_on name seen names is_new rest = rw is_new rest

-- no name stands twice among what comes later, whatever was seen of what stands before
abbrev pub IsOnce : ℕ → ℕ → ℕ → List Place → Type 0
IsOnce groups retries tasks order = (seen : List (List ℕ)) → AllByRecursion (IsEarlier groups retries tasks) seen → first_again_after same_name seen (map name_at order) ≡ None

tasks_once : (group left number state groups retries last : ℕ) (rest : List Place) → number + left ≤ last → last < 2 ^ 64 → IsOnce groups retries last rest → IsOnce groups retries number (places_among (trees_of (tasks_from group left number state)) ++ rest)
tasks_once group zero number state groups retries last rest upto fits once seen all =
    once seen (all_later (IsEarlier groups retries number) (IsEarlier groups retries last) seen (later_still groups retries number groups retries last (omega arith) (omega arith) (omega (arith, upto))) all)
tasks_once group (suc left) number state groups retries last rest upto fits once seen all =
    let order = places_among (trees_of (tasks_from group left (suc number) (drawn state))) ++ rest in
    let named : (task_drawn group number (drawn state % 4)).name ≡ task_name number = by_draw (λ t. t.name ≡ task_name number) group number (drawn state % 4) refl refl refl refl in
    let before : AllByRecursion (IsEarlier groups retries (suc number)) seen = all_later (IsEarlier groups retries number) (IsEarlier groups retries (suc number)) seen (later_still groups retries number groups retries (suc number) (omega arith) (omega arith) (omega arith)) all in
    subst (λ (name : List ℕ). first_again_after same_name seen (name ∷ map name_at order) ≡ None) (sym named)
    (goes_on (task_name number) seen (map name_at order)
    (unseen (IsEarlier groups retries number) (task_name number) seen (new_task groups retries number number (omega arith) (omega (arith, upto, fits))) all)
    (tasks_once group left (suc number) (drawn state) groups retries last rest (omega (arith, upto)) fits once (seen ++ task_name number ∷ [])
    (all_of_both (IsEarlier groups retries (suc number)) seen (task_name number ∷ []) before (of_task number (omega arith) refl, tt))))

groups_once : (size left group state : ℕ) → group + left < 2 ^ 32 → IsOnce group group (10 * group) (places_among (trees_of (groups_from size left group state)))
groups_once size zero group state fits seen all = refl
groups_once size (suc left) group state fits seen all =
    let rest = places_among (trees_of (groups_from size left (suc group) (after (1 + group_size size group) state))) in
    let order = places_among (trees_of (tasks_from group (group_size size group) (10 * group) (drawn state))) ++ rest in
    let few = small_group size group in
    let first : AllByRecursion (IsEarlier (suc group) group (10 * group)) (seen ++ group_name group ∷ []) =
    all_of_both (IsEarlier (suc group) group (10 * group)) seen (group_name group ∷ [])
    (all_later (IsEarlier group group (10 * group)) (IsEarlier (suc group) group (10 * group)) seen (later_still group group (10 * group) (suc group) group (10 * group) (omega arith) (omega arith) (omega arith)) all)
    (of_group group (omega arith) refl, tt) in
    let second : AllByRecursion (IsEarlier (suc group) (suc group) (10 * group)) ((seen ++ group_name group ∷ []) ++ retry_name group ∷ []) =
    all_of_both (IsEarlier (suc group) (suc group) (10 * group)) (seen ++ group_name group ∷ []) (retry_name group ∷ [])
    (all_later (IsEarlier (suc group) group (10 * group)) (IsEarlier (suc group) (suc group) (10 * group)) (seen ++ group_name group ∷ []) (later_still (suc group) group (10 * group) (suc group) (suc group) (10 * group) (omega arith) (omega arith) (omega arith)) first)
    (of_retry group (omega arith) refl, tt) in
    goes_on (group_name group) seen (retry_name group ∷ map name_at order)
    (unseen (IsEarlier group group (10 * group)) (group_name group) seen (new_group group group (10 * group) group (omega arith) (omega (arith, fits))) all)
    (goes_on (retry_name group) (seen ++ group_name group ∷ []) (map name_at order)
    (unseen (IsEarlier (suc group) group (10 * group)) (retry_name group) (seen ++ group_name group ∷ []) (new_retry (suc group) group (10 * group) group (omega arith) (omega (arith, fits))) first)
    (tasks_once group (group_size size group) (10 * group) (drawn state) (suc group) (suc group) (10 * suc group) rest (omega (arith, few)) (omega (arith, fits))
    (groups_once size left (suc group) (after (1 + group_size size group) state) (omega (arith, fits)))
    ((seen ++ group_name group ∷ []) ++ retry_name group ∷ []) second))

-- ---- no limit is passed

passes_none : (most count : ℕ) → count ≤ most → passing most count ≡ None
passes_none most count few = rw (le-ltb most count few) refl

-- each place passes no limit of atoms and deciders
none_at : (give : Place → Option ℕ) (order : List Place) → ((place : Place) → IsFine place → give place ≡ None) → AllByRecursion IsFine order → first_some give order ≡ None
none_at give [] each fine = refl
none_at give (place ∷ order) each fine = none_of_two (give place) (first_some give order) (each place fine.0) (none_at give order each fine.1)

no_rule : (give : Place → Option (List ℕ)) (order : List Place) → ((place : Place) → IsFine place → give place ≡ None) → AllByRecursion IsFine order → first_some give order ≡ None
no_rule give [] each fine = refl
no_rule give (place ∷ order) each fine = none_of_two (give place) (first_some give order) (each place fine.0) (no_rule give order each fine.1)

no_links : (order : List Place) → AllByRecursion IsFine order → sum_by link_count order ≡ 0
no_links [] fine = refl
no_links (place ∷ order) fine = sum_by-cons link_count place order ∙ rw (fine.0.links, no_links order fine.1) refl

-- what is counted of a flow is within the limits
pub record IsSmall (depth : ℕ) (order : List Place) : Type 0 where
  pub nested : depth ≤ 2
  pub fine : AllByRecursion IsFine order
  pub atoms : length (filter is_atom order) ≤ 990
  pub flows : length (filter is_flow order) ≤ 91
  pub bytes : sum_by place_len order ≤ 1000000

nothing_passed : (depth : ℕ) (order : List Place) → IsSmall depth order → (which : Limit) → passed (capped depth) order [] which ≡ None
nothing_passed depth order small limit.Nesting = let nested = small.nested in passes_none 16 (capped depth) (omega (arith, nested))
nothing_passed depth order small limit.Atoms = let atoms = small.atoms in passes_none 1000 (length (filter is_atom order)) (omega (arith, atoms))
nothing_passed depth order small limit.Flows = let flows = small.flows in passes_none 500 (length (filter is_flow order)) (omega (arith, flows))
nothing_passed depth order small limit.Links = let links = no_links order small.fine in passes_none 4000 (capped (sum_by link_count order)) (omega (arith, links))
nothing_passed depth order small limit.Arguments = none_at (passing_at limit.Arguments) order (λ place fine. fine.arguments) small.fine
nothing_passed depth order small limit.Injects = none_at (passing_at limit.Injects) order (λ place fine. fine.injects) small.fine
nothing_passed depth order small limit.Provided = none_at (passing_at limit.Provided) order (λ place fine. fine.provided) small.fine
nothing_passed depth order small limit.Words = none_at (passing_at limit.Words) order (λ place fine. fine.words) small.fine
nothing_passed depth order small limit.Store = refl
nothing_passed depth order small limit.Test = none_at (passing_at limit.Test) order (λ place fine. fine.test) small.fine
nothing_passed depth order small limit.Comparisons = none_at (passing_at limit.Comparisons) order (λ place fine. fine.comparisons) small.fine
nothing_passed depth order small limit.Plan = let bytes = small.bytes in passes_none 1048576 (capped (plan_len order [])) (omega (arith, bytes))

not_too_large : (depth : ℕ) (order : List Place) → IsSmall depth order → too_large (capped depth) order [] ≡ None
not_too_large depth order small = each limits
  where
    each : (among : List Limit) → first_some (limit_fault (capped depth) order []) among ≡ None
    each [] = refl
    each (which ∷ among) = none_of_two (limit_fault (capped depth) order [] which) (first_some (limit_fault (capped depth) order []) among) (rw (nothing_passed depth order small which) refl) (each among)

-- ---- nothing is refused

-- there is an atom
has_atom : (order : List Place) → 0 < length (filter is_atom order) → empty order ≡ None
has_atom order some = by (filter is_atom order) (fault.Empty) some
  where
    by : (atoms : List Place) (reason : PlanFault) → 0 < length atoms → (if has_none atoms then Some reason else None) ≡ None
    by [] reason some = absurd (omega arith)
    by (atom ∷ atoms) reason some = refl

unbroken : (root : List ℕ) (order : List Place) → AllByRecursion IsFine order → 0 < length (filter is_atom order) → first_again same_name (map name_at order) ≡ None → broken_rule root [] order ≡ None
unbroken root order fine some once =
    none_of_two (empty order) _ (has_atom order some)
    (none_of_two (duplicate order) _ (rw once refl)
    (none_of_two (unknown order) _ (rw (no_rule unknown_at order (λ place fine. fine.unknown) fine) refl)
    (none_of_two (bad_link order) _ (rw (no_rule bad_link_at order (λ place fine. fine.bad_link) fine) refl)
    (rw (no_rule bad_atom_at order (λ place fine. fine.bad_atom) fine) refl))))

-- the first refusal of a root's name and tree
abbrev refusal_of_tree : List ℕ → Tree → Option PlanFault
refusal_of_tree name root = option_or (too_large (capped (nesting root)) (places root) []) (broken_rule name [] (places root))

few_groups : (size : ℕ) → 1 ≤ size → size ≤ 900 → (group_count size ≤ 90) × (1 ≤ group_count size)
few_groups size some small = (omega arith, omega arith)

demo_unrefused : (name : List ℕ) (seed size : ℕ) → 1 ≤ size → size ≤ 900 → refusal_of_tree name (demo_flow seed size) ≡ None
unfolding demo_flow
demo_unrefused name seed size some small =
    let few = (few_groups size some small).0 in
    let there = (few_groups size some small).1 in
    let order = places_among (trees_of (groups_from size (group_count size) 0 seed)) in
    let deep = groups_deep size (group_count size) 0 seed in
    let atoms = groups_atoms size (group_count size) 0 seed in
    let flows = groups_flows size (group_count size) 0 seed in
    let bytes = groups_bytes size (group_count size) 0 seed (omega (arith, few)) in
    let members = groups_members size (group_count size) 0 seed in
    let fine : AllByRecursion IsFine (places (demo_flow seed size)) = (level_fine (codes "demo") pattern.Linear (members_of (trees_of (groups_from size (group_count size) 0 seed))), groups_fine size (group_count size) 0 seed) in
    let whole = sum_by-cons place_len (at_flow record { name = codes "demo"; kind = pattern.Linear; links = []; members = members_of (trees_of (groups_from size (group_count size) 0 seed)) }) order in
    none_of_two (too_large (capped (nesting (demo_flow seed size))) (places (demo_flow seed size)) []) (broken_rule name [] (places (demo_flow seed size)))
    (not_too_large (nesting (demo_flow seed size)) (places (demo_flow seed size)) (record {
      nested = omega (arith, deep);
      fine = fine;
      atoms = omega (arith, atoms, few);
      flows = omega (arith, flows, few);
      bytes = omega (arith, bytes, members, whole, few);
    }))
    (unbroken name (places (demo_flow seed size)) fine (has_retry size (group_count size) seed there)
    (goes_on (codes "demo") [] (map name_at order) refl
    (groups_once size (group_count size) 0 seed (omega (arith, few)) (codes "demo" ∷ []) (of_root refl, tt))))
  where
    has_retry : (size count seed : ℕ) → 1 ≤ count → 0 < length (filter is_atom (places_among (trees_of (groups_from size count 0 seed))))
    has_retry size zero seed some = absurd (omega arith)
    has_retry size (suc count) seed some = omega arith

pub unrefused : (root : Flow) (seed size : ℕ) → 1 ≤ size → size ≤ 900 → tree_of root ≡ demo_flow seed size → first_refusal root [] ≡ None
unrefused root seed size some small is = subst (λ (t : Tree). refusal_of_tree root.name t ≡ None) (sym is) (demo_unrefused root.name seed size some small)
