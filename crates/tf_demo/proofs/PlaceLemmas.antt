-- What stands in a generated flow: each place passes every limit and rule, and there are few of them.
use Rattle.std.proofs.Common.{◌≡◌, ℕ, zero, suc, ◌+◌, ◌*◌, ◌<◌, ◌≤◌, List, [], ◌∷◌, ◌++◌, length, filter, Bool, true, false, None, refl, ap, ◌∙◌, arith}
use Rattle.std.specs.Prelude.{nat_eq, sum_by, ◌%◌, if◌then◌else◌}
use Rattle.std.specs.List.{AllByRecursion}
use Rattle.std.proofs.lemmas.List.Sums.{sum_by-append, sum_by-cons}
use Rattle.tf_flow.specs.declared.atoms.Task.{Task}
use Rattle.tf_flow.specs.declared.faults.Limit.TheVariants as limit
use Rattle.tf_flow.specs.declared.nested.FlowKind.{FlowKind}
use Rattle.tf_flow.specs.declared.nested.FlowKind.TheVariants as pattern
use Rattle.tf_flow.specs.Limits.{place_len, passing_at, link_count}
use Rattle.tf_flow.specs.Tree.{Place, at_flow, at_retry, at_task, Member, members_of, places, places_among, is_atom, is_flow, trees_of, nesting, deepest}
use Rattle.tf_flow.specs.Rules.{unknown_at, bad_link_at, bad_atom_at}
use Rattle.tf_numbers.proofs.ListLemmas.{filter_append, length_both}
use Rattle.tf_demo.specs.Demo.{drawn, after, echo_task, fail_below_task, sum_task, concat_task, task_drawn, tasks_from, retry_of, pattern_drawn, group_name, group_size, group_flow, groups_from}
use Rattle.tf_demo.proofs.ListLemmas.{all_of_both}
use Rattle.tf_demo.proofs.NameLemmas.{three_digits}

-- what holds of each of the four tasks holds of the one that is drawn
pub by_draw : (P : Task → Type 0) (group number draw : ℕ) → P (echo_task number) → P (fail_below_task group number) → P (sum_task group number) → P (concat_task group number) → P (task_drawn group number draw)
by_draw P group number draw echo fail sum concat = pick (nat_eq draw 0) (nat_eq draw 1) (nat_eq draw 2)
  where
    pick : (x y z : Bool) → P (if x then echo_task number else if y then fail_below_task group number else if z then sum_task group number else concat_task group number)
    pick true y z = echo
    pick false true z = fail
    pick false false true = sum
    pick false false false = concat

-- ---- each place

-- no limit and no rule refuses what stands at the place
pub record IsFine (place : Place) : Type 0 where
  pub arguments : passing_at limit.Arguments place ≡ None
  pub injects : passing_at limit.Injects place ≡ None
  pub provided : passing_at limit.Provided place ≡ None
  pub words : passing_at limit.Words place ≡ None
  pub test : passing_at limit.Test place ≡ None
  pub comparisons : passing_at limit.Comparisons place ≡ None
  pub links : link_count place ≡ 0
  pub unknown : unknown_at place ≡ None
  pub bad_link : bad_link_at place ≡ None
  pub bad_atom : bad_atom_at place ≡ None

task_fine : (group number draw : ℕ) → IsFine (at_task (task_drawn group number draw))
task_fine group number draw = by_draw (λ t. IsFine (at_task t)) group number draw
    (record { arguments = refl; injects = refl; provided = refl; words = refl; test = refl; comparisons = refl; links = refl; unknown = refl; bad_link = refl; bad_atom = refl })
    (record { arguments = refl; injects = refl; provided = refl; words = refl; test = refl; comparisons = refl; links = refl; unknown = refl; bad_link = refl; bad_atom = refl })
    (record { arguments = refl; injects = refl; provided = refl; words = refl; test = refl; comparisons = refl; links = refl; unknown = refl; bad_link = refl; bad_atom = refl })
    (record { arguments = refl; injects = refl; provided = refl; words = refl; test = refl; comparisons = refl; links = refl; unknown = refl; bad_link = refl; bad_atom = refl })

retry_fine : (group : ℕ) → IsFine (at_retry (retry_of group))
retry_fine group = record { arguments = refl; injects = refl; provided = refl; words = refl; test = refl; comparisons = refl; links = refl; unknown = refl; bad_link = refl; bad_atom = refl }

pub level_fine : (name : List ℕ) (kind : FlowKind) (members : List Member) → IsFine (at_flow record { name = name; kind = kind; links = []; members = members })
level_fine name pattern.Linear members = record { arguments = refl; injects = refl; provided = refl; words = refl; test = refl; comparisons = refl; links = refl; unknown = refl; bad_link = refl; bad_atom = refl }
level_fine name pattern.Unordered members = record { arguments = refl; injects = refl; provided = refl; words = refl; test = refl; comparisons = refl; links = refl; unknown = refl; bad_link = refl; bad_atom = refl }
level_fine name pattern.Graph members = record { arguments = refl; injects = refl; provided = refl; words = refl; test = refl; comparisons = refl; links = refl; unknown = refl; bad_link = refl; bad_atom = refl }

tasks_fine : (group left number state : ℕ) → AllByRecursion IsFine (places_among (trees_of (tasks_from group left number state)))
tasks_fine group zero number state = tt
tasks_fine group (suc left) number state = (task_fine group number (drawn state % 4), tasks_fine group left (suc number) (drawn state))

pub groups_fine : (size left group state : ℕ) → AllByRecursion IsFine (places_among (trees_of (groups_from size left group state)))
groups_fine size zero group state = tt
groups_fine size (suc left) group state =
    all_of_both IsFine (places (group_flow size group state)) (places_among (trees_of (groups_from size left (suc group) (after (1 + group_size size group) state)))) (
      level_fine (group_name group) (pattern_drawn (drawn state % 3)) (members_of (trees_of (tasks_from group (group_size size group) (10 * group) (drawn state)))),
      (retry_fine group, tasks_fine group (group_size size group) (10 * group) (drawn state)),
    )
    (groups_fine size left (suc group) (after (1 + group_size size group) state))

-- ---- how many there are

pub small_group : (size group : ℕ) → group_size size group ≤ 10
small_group size group = omega arith

counted_both : (test : Place → Bool) (xs ys : List Place) → length (filter test (xs ++ ys)) ≡ length (filter test xs) + length (filter test ys)
counted_both test xs ys = ap length (filter_append test xs ys) ∙ length_both (filter test xs) (filter test ys)

tasks_atoms : (group left number state : ℕ) → length (filter is_atom (places_among (trees_of (tasks_from group left number state)))) ≡ left
tasks_atoms group zero number state = refl
tasks_atoms group (suc left) number state = ap suc (tasks_atoms group left (suc number) (drawn state))

pub groups_atoms : (size left group state : ℕ) → length (filter is_atom (places_among (trees_of (groups_from size left group state)))) ≤ 11 * left
groups_atoms size zero group state = omega arith
groups_atoms size (suc left) group state =
    let here : length (filter is_atom (places (group_flow size group state))) ≡ suc (group_size size group) = ap suc (tasks_atoms group (group_size size group) (10 * group) (drawn state)) in
    let both = counted_both is_atom (places (group_flow size group state)) (places_among (trees_of (groups_from size left (suc group) (after (1 + group_size size group) state)))) in
    let rest = groups_atoms size left (suc group) (after (1 + group_size size group) state) in
    let few = small_group size group in
    omega (arith, here, both, rest, few)

tasks_flows : (group left number state : ℕ) → length (filter is_flow (places_among (trees_of (tasks_from group left number state)))) ≡ 0
tasks_flows group zero number state = refl
tasks_flows group (suc left) number state = tasks_flows group left (suc number) (drawn state)

pub groups_flows : (size left group state : ℕ) → length (filter is_flow (places_among (trees_of (groups_from size left group state)))) ≡ left
groups_flows size zero group state = refl
groups_flows size (suc left) group state =
    let here : length (filter is_flow (places (group_flow size group state))) ≡ 1 = ap suc (tasks_flows group (group_size size group) (10 * group) (drawn state)) in
    let both = counted_both is_flow (places (group_flow size group state)) (places_among (trees_of (groups_from size left (suc group) (after (1 + group_size size group) state)))) in
    let rest = groups_flows size left (suc group) (after (1 + group_size size group) state) in
    omega (arith, here, both, rest)

-- ---- how deep they stand

tasks_deep : (group left number state : ℕ) → deepest (trees_of (tasks_from group left number state)) ≡ 0
tasks_deep group zero number state = refl
tasks_deep group (suc left) number state = let rest = tasks_deep group left (suc number) (drawn state) in omega (arith, rest)

pub groups_deep : (size left group state : ℕ) → deepest (trees_of (groups_from size left group state)) ≤ 1
groups_deep size zero group state = omega arith
groups_deep size (suc left) group state =
    let tasks = tasks_deep group (group_size size group) (10 * group) (drawn state) in
    let here : nesting (group_flow size group state) ≡ 1 = omega (arith, tasks) in
    let rest = groups_deep size left (suc group) (after (1 + group_size size group) state) in
    omega (arith, here, rest)

-- ---- how many bytes they have

task_bytes : (group number draw : ℕ) → group < 1000 → number < 1000 → place_len (at_task (task_drawn group number draw)) ≤ 100
task_bytes group number draw few small =
    let own = three_digits number small in
    let of_group = three_digits group few in
    by_draw (λ t. place_len (at_task t) ≤ 100) group number draw (omega (arith, own)) (omega (arith, own, of_group)) (omega (arith, own, of_group)) (omega (arith, own, of_group))

tasks_bytes : (group left number state : ℕ) → group < 1000 → number + left ≤ 1000 → sum_by place_len (places_among (trees_of (tasks_from group left number state))) ≤ 100 * left
tasks_bytes group zero number state few small = omega arith
tasks_bytes group (suc left) number state few small =
    let one = task_bytes group number (drawn state % 4) few (omega (arith, small)) in
    let rest = tasks_bytes group left (suc number) (drawn state) few (omega (arith, small)) in
    let both = sum_by-append place_len (at_task (task_drawn group number (drawn state % 4)) ∷ []) (places_among (trees_of (tasks_from group left (suc number) (drawn state)))) in
    omega (arith, one, rest, both)

tasks_members : (group left number state : ℕ) → length (members_of (trees_of (tasks_from group left number state))) ≡ left
tasks_members group zero number state = refl
tasks_members group (suc left) number state = ap suc (tasks_members group left (suc number) (drawn state))

pub groups_members : (size left group state : ℕ) → length (members_of (trees_of (groups_from size left group state))) ≡ left
groups_members size zero group state = refl
groups_members size (suc left) group state = ap suc (groups_members size left (suc group) (after (1 + group_size size group) state))

pub groups_bytes : (size left group state : ℕ) → group + left < 100 → sum_by place_len (places_among (trees_of (groups_from size left group state))) ≤ 2000 * left
groups_bytes size zero group state few = omega arith
groups_bytes size (suc left) group state few =
    let head = at_flow record { name = group_name group; kind = pattern_drawn (drawn state % 3); links = []; members = members_of (trees_of (tasks_from group (group_size size group) (10 * group) (drawn state))) } in
    let tasks = places_among (trees_of (tasks_from group (group_size size group) (10 * group) (drawn state))) in
    let digits = three_digits group (omega (arith, few)) in
    let count = small_group size group in
    let members = tasks_members group (group_size size group) (10 * group) (drawn state) in
    let of_head : place_len head ≤ 100 = omega (arith, digits, members, count) in
    let of_retry : place_len (at_retry (retry_of group)) ≤ 100 = omega (arith, digits) in
    let of_tasks = tasks_bytes group (group_size size group) (10 * group) (drawn state) (omega (arith, few)) (omega (arith, few, count)) in
    let one = sum_by-cons place_len head (at_retry (retry_of group) ∷ tasks) in
    let two = sum_by-cons place_len (at_retry (retry_of group)) tasks in
    let both = sum_by-append place_len (places (group_flow size group state)) (places_among (trees_of (groups_from size left (suc group) (after (1 + group_size size group) state)))) in
    let rest = groups_bytes size left (suc group) (after (1 + group_size size group) state) (omega (arith, few)) in
    omega (arith, of_head, of_retry, of_tasks, one, two, both, rest, count)
