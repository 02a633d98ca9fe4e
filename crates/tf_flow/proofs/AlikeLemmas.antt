-- Flows that are written alike are refused alike.
use Rattle.std.proofs.Common.{◌≡◌, ◌∙◌, ℕ, ◌+◌, max, List, [], ◌∷◌, ◌++◌, Bool, true, false, not, ◌&&◌, ◌||◌, Option, Some, None, map, filter, length, refl, ap, sym, arith}
use Rattle.std.proofs.Math.Path.{fun_ext}
use Rattle.std.proofs.lemmas.List.{length-map, map-append}
use Rattle.std.proofs.lemmas.List.Sums.{sum_by-cons}
use Rattle.std.specs.List.{list_any, sum_by}
use Rattle.std.specs.Option.{option_or}
use Rattle.std.specs.Prelude.{if◌then◌else◌, is_some, option_map}
use Rattle.tf_flow.specs.Limits.{name_len, link_len, place_len, binds_len, decider_len, capped, passing, passing_nesting, passing_comparisons, passing_at, deep_test, wide_test, link_count, passed, too_large, limits}
use Rattle.tf_flow.specs.Outline.{Connection, connection_of, Decision, decision_of}
use Rattle.tf_flow.specs.Tree.{same_name, first_some, first_again, is_among, has_twice, Place, at_flow, at_retry, at_task, Member, Level, member_of, members_of, retry_places, places, places_among, is_atom, is_flow, name_at, Tree, task, flow, Trees, no_trees, tree, tree_of, nesting, deepest}
use Rattle.tf_flow.specs.Rules.{first_refusal, broken_rule, empty, duplicate, unknown, bad_link, bad_atom, has_none, member_names, nested_names, stray_end, unknown_at, is_graph, ends, same_ends, decides_flow, bad_link_at, bad_atom_at, bind_symbols}
use Rattle.tf_flow.specs.declared.atoms.Bind.{Bind}
use Rattle.tf_flow.specs.declared.atoms.Retry.{Retry}
use Rattle.tf_flow.specs.declared.atoms.Task.{Task}
use Rattle.tf_flow.specs.declared.deciders.Decider.{Decider}
use Rattle.tf_flow.specs.declared.deciders.Link.{Link}
use Rattle.tf_flow.specs.declared.faults.Limit.{Limit}
use Rattle.tf_flow.specs.declared.faults.Limit.TheVariants as limit
use Rattle.tf_flow.specs.declared.faults.PlanFault.TheVariants as fault
use Rattle.tf_flow.specs.declared.nested.Flow.{Flow}
use Rattle.tf_flow.specs.declared.nested.FlowKind.{FlowKind}
use Rattle.tf_flow.proofs.MeasureLemmas.{condition_measure, told}
use Rattle.tf_flow.proofs.WrittenLemmas.{flow_written}
use Rattle.tf_flow.specs.Plan.{WrittenHead, WrittenTree, written_task, written_flow, WrittenTrees, nothing_written, written, as_written, all_as_written, head_as_written}

-- ---- lists

first_of : {X Y : Type 0} (f : X → Option Y) (xs : List X) → first_some f xs ≡ first_some (λ x. x) (map f xs)
first_of f [] = refl
first_of f (x ∷ xs) = ap (option_or (f x)) (first_of f xs)

sum_of : {X : Type 0} (f : X → ℕ) (xs : List X) → sum_by f xs ≡ sum_by (λ x. x) (map f xs)
sum_of f [] = refl
sum_of f (x ∷ xs) = sum_by-cons f x xs ∙ ap (λ n. f x + n) (sum_of f xs) ∙ sym (sum_by-cons (λ x. x) (f x) (map f xs))

counted : {X : Type 0} (f : X → Bool) (xs : List X) → length (filter f xs) ≡ length (filter (λ b. b) (map f xs))
counted f [] = refl
counted f (x ∷ xs) = grind (arith, counted f xs)

none_of : {X : Type 0} (f : X → Bool) (xs : List X) → has_none (filter f xs) ≡ has_none (filter (λ b. b) (map f xs))
none_of f [] = refl
none_of f (x ∷ xs) = grind (arith, none_of f xs)

-- ---- links

first_link : {X : Type 0} (f : Link → Option X) (g : Connection → Option X) → ((link : Link) → f link ≡ g (connection_of link)) → (links : List Link) → first_some f links ≡ first_some g (map connection_of links)
first_link f g each [] = refl
first_link f g each (link ∷ links) = ap (λ x. option_or x (first_some f links)) (each link) ∙ ap (option_or (g (connection_of link))) (first_link f g each links)

sum_links : (f : Link → ℕ) (g : Connection → ℕ) → ((link : Link) → f link ≡ g (connection_of link)) → (links : List Link) → sum_by f links ≡ sum_by g (map connection_of links)
sum_links f g each [] = refl
sum_links f g each (link ∷ links) =
    sum_by-cons f link links ∙ ap (λ n. n + sum_by f links) (each link) ∙ ap (λ n. g (connection_of link) + n) (sum_links f g each links)
    ∙ sym (sum_by-cons g (connection_of link) (map connection_of links))

any_link : (f : Link → Bool) (g : Connection → Bool) → ((link : Link) → f link ≡ g (connection_of link)) → (links : List Link) → list_any f links ≡ list_any g (map connection_of links)
any_link f g each [] = refl
any_link f g each (link ∷ links) = ap (λ x. x || list_any f links) (each link) ∙ ap (λ x. g (connection_of link) || x) (any_link f g each links)

abbrev ends_of : Connection → List ℕ × List ℕ
ends_of link = (link.from, link.to)

all_ends : (links : List Link) → map ends links ≡ map ends_of (map connection_of links)
all_ends [] = refl
all_ends (link ∷ links) = ap (λ x. ends link ∷ x) (all_ends links)

no_links : (links : List Link) → has_none links ≡ has_none (map connection_of links)
no_links [] = refl
no_links (link ∷ links) = refl

abbrev deep : Option Decision → Option ℕ
deep None = None
deep (Some decision) = passing 16 (capped (condition_measure decision.condition).nesting)

deep_told : (decider : Option Decider) → deep_test decider ≡ deep (decision_of decider)
deep_told None = refl
deep_told (Some decider) = ap (λ m. passing 16 (capped m.nesting)) (told decider.test)

abbrev wide : Option Decision → Option ℕ
wide None = None
wide (Some decision) = passing 64 (capped (condition_measure decision.condition).comparisons)

wide_told : (decider : Option Decider) → wide_test decider ≡ wide (decision_of decider)
wide_told None = refl
wide_told (Some decider) = ap (λ m. passing 64 (capped m.comparisons)) (told decider.test)

abbrev decision_len : Option Decision → ℕ
decision_len None = 1
decision_len (Some decision) = 2 + (condition_measure decision.condition).len

len_told : (decider : Option Decider) → decider_len decider ≡ decision_len (decision_of decider)
len_told None = refl
len_told (Some decider) = ap (λ m. 2 + m.len) (told decider.test)

abbrev connection_len : Connection → ℕ
connection_len link = name_len link.from + name_len link.to + decision_len link.decision

decided : (decider : Option Decider) → is_some decider ≡ is_some (decision_of decider)
decided None = refl
decided (Some decider) = refl

abbrev stray_end_of : List (List ℕ) → Connection → Option (List ℕ)
stray_end_of names link =
    if is_among names link.from then (if is_among names link.to then None else Some link.to)
    else Some link.from

abbrev decides_flow_of : List (List ℕ) → Connection → Bool
decides_flow_of nested link = is_some link.decision && (is_among nested link.from || is_among nested link.to)

-- ---- places

record WrittenLevel : Type 0 where
  name : List ℕ
  kind : FlowKind
  links : List Connection
  members : List Member

data WrittenPlace : Type 0 where
  level_written : WrittenLevel → WrittenPlace
  retry_written : Retry → WrittenPlace
  task_written : Task → WrittenPlace

abbrev level_as_written : Level → WrittenLevel
level_as_written level = record { name = level.name; kind = level.kind; links = map connection_of level.links; members = level.members }

abbrev place_as_written : Place → WrittenPlace
place_as_written (at_flow level) = level_written (level_as_written level)
place_as_written (at_retry r) = retry_written r
place_as_written (at_task t) = task_written t

-- what is read of a place, by what is written there
abbrev by_writing : {X : Type 0} → (Place → X) → (WrittenLevel → X) → WrittenPlace → X
by_writing f g (level_written level) = g level
by_writing f g (retry_written r) = f (at_retry r)
by_writing f g (task_written t) = f (at_task t)

at_place : {X : Type 0} (f : Place → X) (g : WrittenLevel → X) → ((level : Level) → f (at_flow level) ≡ g (level_as_written level)) → (p : Place) → f p ≡ by_writing f g (place_as_written p)
at_place f g each (at_flow level) = each level
at_place f g each (at_retry r) = refl
at_place f g each (at_task t) = refl

at_places : {X : Type 0} (f : Place → X) (g : WrittenLevel → X) → ((level : Level) → f (at_flow level) ≡ g (level_as_written level)) → (ps : List Place) → map f ps ≡ map (by_writing f g) (map place_as_written ps)
at_places f g each [] = refl
at_places f g each (p ∷ ps) = ap (λ x. x ∷ map f ps) (at_place f g each p) ∙ ap (λ xs. by_writing f g (place_as_written p) ∷ xs) (at_places f g each ps)

module _ (ps qs : List Place) (same : map place_as_written ps ≡ map place_as_written qs) where
  alike : {X : Type 0} (f : Place → X) (g : WrittenLevel → X) → ((level : Level) → f (at_flow level) ≡ g (level_as_written level)) → map f ps ≡ map f qs
  alike f g each = at_places f g each ps ∙ ap (map (by_writing f g)) same ∙ sym (at_places f g each qs)

  first_alike : {X : Type 0} (f : Place → Option X) (g : WrittenLevel → Option X) → ((level : Level) → f (at_flow level) ≡ g (level_as_written level)) → first_some f ps ≡ first_some f qs
  first_alike f g each = first_of f ps ∙ ap (first_some (λ x. x)) (alike f g each) ∙ sym (first_of f qs)

  sum_alike : (f : Place → ℕ) (g : WrittenLevel → ℕ) → ((level : Level) → f (at_flow level) ≡ g (level_as_written level)) → sum_by f ps ≡ sum_by f qs
  sum_alike f g each = sum_of f ps ∙ ap (sum_by (λ x. x)) (alike f g each) ∙ sym (sum_of f qs)

  atoms_alike : map is_atom ps ≡ map is_atom qs
  atoms_alike = alike is_atom (λ _. false) (λ _. refl)

  atom_count_alike : length (filter is_atom ps) ≡ length (filter is_atom qs)
  atom_count_alike = counted is_atom ps ∙ ap (λ marks. length (filter (λ b. b) marks)) atoms_alike ∙ sym (counted is_atom qs)

  flow_count_alike : length (filter is_flow ps) ≡ length (filter is_flow qs)
  flow_count_alike = counted is_flow ps ∙ ap (λ marks. length (filter (λ b. b) marks)) (alike is_flow (λ _. true) (λ _. refl)) ∙ sym (counted is_flow qs)

  links_alike : sum_by link_count ps ≡ sum_by link_count qs
  links_alike = sum_alike link_count (λ level. length level.links) (λ level. sym (length-map level.links connection_of))

  len_alike : sum_by place_len ps ≡ sum_by place_len qs
  len_alike = sum_alike place_len (λ level. name_len level.name + 6 + length level.members + sum_by connection_len level.links)
      (λ level. ap (λ n. name_len level.name + 6 + length level.members + n) (sum_links link_len connection_len (λ link. ap (λ n. name_len link.from + name_len link.to + n) (len_told link.decider)) level.links))

  test_alike : first_some (passing_at limit.Test) ps ≡ first_some (passing_at limit.Test) qs
  test_alike = first_alike (passing_at limit.Test) (λ level. first_some (λ link. deep link.decision) level.links)
      (λ level. first_link passing_nesting (λ link. deep link.decision) (λ link. deep_told link.decider) level.links)

  comparisons_alike : first_some (passing_at limit.Comparisons) ps ≡ first_some (passing_at limit.Comparisons) qs
  comparisons_alike = first_alike (passing_at limit.Comparisons) (λ level. first_some (λ link. wide link.decision) level.links)
      (λ level. first_link passing_comparisons (λ link. wide link.decision) (λ link. wide_told link.decider) level.links)

  passed_alike : (n : ℕ) (store : List Bind) (which : Limit) → passed n ps store which ≡ passed n qs store which
  passed_alike n store limit.Nesting = refl
  passed_alike n store limit.Atoms = ap (passing 1000) atom_count_alike
  passed_alike n store limit.Flows = ap (passing 500) flow_count_alike
  passed_alike n store limit.Links = ap (λ count. passing 4000 (capped count)) links_alike
  passed_alike n store limit.Arguments = first_alike (passing_at limit.Arguments) (λ _. None) (λ _. refl)
  passed_alike n store limit.Injects = first_alike (passing_at limit.Injects) (λ _. None) (λ _. refl)
  passed_alike n store limit.Provided = first_alike (passing_at limit.Provided) (λ _. None) (λ _. refl)
  passed_alike n store limit.Words = first_alike (passing_at limit.Words) (λ _. None) (λ _. refl)
  passed_alike n store limit.Store = refl
  passed_alike n store limit.Test = test_alike
  passed_alike n store limit.Comparisons = comparisons_alike
  passed_alike n store limit.Plan = ap (λ len. passing 1048576 (capped (len + binds_len store + 1))) len_alike

  limits_alike : (n : ℕ) (store : List Bind) → too_large n ps store ≡ too_large n qs store
  limits_alike n store = ap (λ give. first_some give limits) (fun_ext (λ which. ap (λ found. option_map (λ count. fault.TooLarge which count) found) (passed_alike n store which)))

  empty_alike : empty ps ≡ empty qs
  empty_alike = ap (λ none. if none then Some fault.Empty else None) (none_of is_atom ps ∙ ap (λ marks. has_none (filter (λ b. b) marks)) atoms_alike ∙ sym (none_of is_atom qs))

  duplicate_alike : duplicate ps ≡ duplicate qs
  duplicate_alike = ap (λ names. option_map (λ name. fault.Duplicate name) (first_again same_name names)) (alike name_at (λ level. level.name) (λ _. refl))

  unknown_alike : unknown ps ≡ unknown qs
  unknown_alike = ap (option_map (λ name. fault.Unknown name)) (first_alike unknown_at (λ level. first_some (stray_end_of (member_names level.members)) level.links)
      (λ level. first_link (stray_end (member_names level.members)) (stray_end_of (member_names level.members)) (λ _. refl) level.links))

  abbrev bad_link_of : WrittenLevel → Option (List ℕ)
  bad_link_of level =
      if (not (is_graph level.kind) && not (has_none level.links)) || is_some (first_again same_ends (map ends_of level.links)) || list_any (decides_flow_of (nested_names level.members)) level.links
      then Some level.name else None

  bad_link_told : (level : Level) → bad_link_at (at_flow level) ≡ bad_link_of (level_as_written level)
  bad_link_told level =
      ap (λ bad. if bad then Some level.name else None)
      (ap (λ none. (not (is_graph level.kind) && not none) || is_some (first_again same_ends (map ends level.links)) || list_any (decides_flow (nested_names level.members)) level.links) (no_links level.links)
      ∙ ap (λ pairs. (not (is_graph level.kind) && not (has_none (map connection_of level.links))) || is_some (first_again same_ends pairs) || list_any (decides_flow (nested_names level.members)) level.links) (all_ends level.links)
      ∙ ap (λ any. (not (is_graph level.kind) && not (has_none (map connection_of level.links))) || is_some (first_again same_ends (map ends_of (map connection_of level.links))) || any)
      (any_link (decides_flow (nested_names level.members)) (decides_flow_of (nested_names level.members)) (λ link. ap (λ b. b && (is_among (nested_names level.members) link.from || is_among (nested_names level.members) link.to)) (decided link.decider)) level.links))

  bad_link_alike : bad_link ps ≡ bad_link qs
  bad_link_alike = ap (option_map (λ name. fault.BadLink name)) (first_alike bad_link_at bad_link_of bad_link_told)

  bad_atom_alike : (root : List ℕ) (store : List Bind) → bad_atom root store ps ≡ bad_atom root store qs
  bad_atom_alike root store = ap (λ found. option_map (λ name. fault.BadAtom name) (if has_twice (bind_symbols store) then Some root else found)) (first_alike bad_atom_at (λ _. None) (λ _. refl))

  rules_alike : (root : List ℕ) (store : List Bind) → broken_rule root store ps ≡ broken_rule root store qs
  rules_alike root store =
      ap (λ x. option_or x (option_or (duplicate ps) (option_or (unknown ps) (option_or (bad_link ps) (bad_atom root store ps))))) empty_alike
      ∙ ap (λ x. option_or (empty qs) (option_or x (option_or (unknown ps) (option_or (bad_link ps) (bad_atom root store ps))))) duplicate_alike
      ∙ ap (λ x. option_or (empty qs) (option_or (duplicate qs) (option_or x (option_or (bad_link ps) (bad_atom root store ps))))) unknown_alike
      ∙ ap (λ x. option_or (empty qs) (option_or (duplicate qs) (option_or (unknown qs) (option_or x (bad_atom root store ps))))) bad_link_alike
      ∙ ap (λ x. option_or (empty qs) (option_or (duplicate qs) (option_or (unknown qs) (option_or (bad_link qs) x)))) (bad_atom_alike root store)

-- ---- trees

abbrev written_member : WrittenTree → Member
written_member (written_task t) = record { name = t.name; is_task = true }
written_member (written_flow head items) = record { name = head.name; is_task = false }

abbrev written_members : WrittenTrees → List Member
written_members nothing_written = []
written_members (written first others) = written_member first ∷ written_members others

abbrev written_level : WrittenHead → WrittenTrees → WrittenLevel
written_level head items = record { name = head.name; kind = head.kind; links = head.links; members = written_members items }

abbrev written_retry : Option Retry → List WrittenPlace
written_retry None = []
written_retry (Some r) = retry_written r ∷ []

abbrev mutual
  written_places : WrittenTree → List WrittenPlace
  written_places (written_task t) = task_written t ∷ []
  written_places (written_flow head items) = level_written (written_level head items) ∷ (written_retry head.retry ++ places_written items)

  places_written : WrittenTrees → List WrittenPlace
  places_written nothing_written = []
  places_written (written first others) = written_places first ++ places_written others

abbrev mutual
  pub written_nesting : WrittenTree → ℕ
  written_nesting (written_task t) = 0
  written_nesting (written_flow head items) = 1 + deepest_written items

  pub deepest_written : WrittenTrees → ℕ
  deepest_written nothing_written = 0
  deepest_written (written first others) = max (written_nesting first) (deepest_written others)

mutual
  pub nesting_told : (t : Tree) → nesting t ≡ written_nesting (as_written t)
  nesting_told (task t) = refl
  nesting_told (flow head items) = ap (λ n. 1 + n) (deepest_told items)

  deepest_told : (ts : Trees) → deepest ts ≡ deepest_written (all_as_written ts)
  deepest_told no_trees = refl
  deepest_told (tree first others) = ap (λ n. max n (deepest others)) (nesting_told first) ∙ ap (max (written_nesting (as_written first))) (deepest_told others)

member_told : (t : Tree) → member_of t ≡ written_member (as_written t)
member_told (task t) = refl
member_told (flow head items) = refl

members_told : (ts : Trees) → members_of ts ≡ written_members (all_as_written ts)
members_told no_trees = refl
members_told (tree first others) = ap (λ m. m ∷ members_of others) (member_told first) ∙ ap (λ ms. written_member (as_written first) ∷ ms) (members_told others)

retry_told : (r : Option Retry) → map place_as_written (retry_places r) ≡ written_retry r
retry_told None = refl
retry_told (Some r) = refl

mutual
  places_told : (t : Tree) → map place_as_written (places t) ≡ written_places (as_written t)
  places_told (task t) = refl
  places_told (flow head items) =
      ap (λ ms. level_written record { name = head.name; kind = head.kind; links = map connection_of head.links; members = ms } ∷ map place_as_written (retry_places head.retry ++ places_among items)) (members_told items)
      ∙ ap (λ rest. level_written (written_level (head_as_written head) (all_as_written items)) ∷ rest)
      (map-append place_as_written (retry_places head.retry) (places_among items)
      ∙ ap (λ prefix. prefix ++ map place_as_written (places_among items)) (retry_told head.retry)
      ∙ ap (λ rest. written_retry head.retry ++ rest) (among_told items))

  among_told : (ts : Trees) → map place_as_written (places_among ts) ≡ places_written (all_as_written ts)
  among_told no_trees = refl
  among_told (tree first others) =
      map-append place_as_written (places first) (places_among others)
      ∙ ap (λ prefix. prefix ++ map place_as_written (places_among others)) (places_told first)
      ∙ ap (λ rest. written_places (as_written first) ++ rest) (among_told others)

abbrev written_name : WrittenTree → List ℕ
written_name (written_task t) = t.name
written_name (written_flow head items) = head.name

-- two flows that are written alike are refused for the same
pub refused_alike : (a b : Flow) (store : List Bind) → as_written (tree_of a) ≡ as_written (tree_of b) → first_refusal a store ≡ first_refusal b store
refused_alike a b store same =
    let depth : nesting (tree_of a) ≡ nesting (tree_of b) = nesting_told (tree_of a) ∙ ap written_nesting same ∙ sym (nesting_told (tree_of b)) in
    let order : map place_as_written (places (tree_of a)) ≡ map place_as_written (places (tree_of b)) = places_told (tree_of a) ∙ ap written_places same ∙ sym (places_told (tree_of b)) in
    let name : a.name ≡ b.name = sym (ap written_name (flow_written a)) ∙ ap written_name same ∙ ap written_name (flow_written b) in
    ap (λ n. option_or (too_large (capped n) (places (tree_of a)) store) (broken_rule a.name store (places (tree_of a)))) depth
    ∙ ap (λ x. option_or x (broken_rule a.name store (places (tree_of a)))) (limits_alike (places (tree_of a)) (places (tree_of b)) order (capped (nesting (tree_of b))) store)
    ∙ ap (λ x. option_or (too_large (capped (nesting (tree_of b))) (places (tree_of b)) store) (broken_rule x store (places (tree_of a)))) name
    ∙ ap (option_or (too_large (capped (nesting (tree_of b))) (places (tree_of b)) store)) (rules_alike (places (tree_of a)) (places (tree_of b)) order b.name store)
