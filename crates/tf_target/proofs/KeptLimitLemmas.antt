-- What is kept of a plan's root is refused for nothing but that it is empty.
use Rattle.std.proofs.Common.{◌≡◌, ◌∙◌, ℕ, zero, suc, ◌+◌, ◌≤◌, ◌-◌, List, [], ◌∷◌, ◌++◌, Bool, true, false, not, ◌&&◌, ◌||◌, Option, Some, None, map, filter, length, refl, ap, sym, inl, inr, arith}
use Rattle.std.specs.List.{list_any}
use Rattle.std.specs.Option.{option_or}
use Rattle.std.specs.Prelude.{if◌then◌else◌, is_some}
use Rattle.tf_flow.specs.Limits.{capped, too_large, limits}
use Rattle.tf_flow.specs.Tree.{same_name, first_some, first_again, is_among, Place, at_flow, Member, Level, level_of, retry_places, places, places_among, is_atom, Tree, task, flow, Trees, no_trees, tree, Head, tree_of, trees_of, item_tree, nesting}
use Rattle.tf_flow.specs.Outline.{atom_count, atoms_among_count, retry_count}
use Rattle.tf_flow.specs.Rules.{first_refusal, broken_rule, empty, duplicate, unknown, bad_link, bad_atom, has_none, nested_names, stray_end, unknown_at, is_graph, ends, same_ends, decides_flow, bad_link_at, has_bad_link}
use Rattle.tf_flow.specs.declared.atoms.Bind.{Bind}
use Rattle.tf_flow.specs.declared.atoms.Retry.{Retry}
use Rattle.tf_flow.specs.declared.deciders.Link.{Link}
use Rattle.tf_flow.specs.declared.faults.PlanFault.{PlanFault}
use Rattle.tf_flow.specs.declared.faults.PlanFault.TheVariants as fault
use Rattle.tf_numbers.proofs.OptionLemmas.{neither_there, none_mapped, none_if, or_none}
use Rattle.tf_numbers.proofs.TruthLemmas.{neither, neither_first, neither_second, never_true, clash, true_both, and_first, and_second, either_way, or_either, true_first, true_second}
use Rattle.tf_numbers.proofs.EquationLemmas.{ap2}
use Rattle.tf_numbers.proofs.ListLemmas.{filter_append, length_both}
use Rattle.tf_flow.proofs.AlikeLemmas.{refused_alike}
use Rattle.tf_flow.proofs.TreeLemmas.{tree_of-flow}
use Rattle.tf_flow.specs.Plan.{as_written}
use Rattle.tf_flow.specs.declared.nested.Flow.{Flow}
use Rattle.tf_target.specs.Target.{names_among, kept_among, joins_kept, kept_head, kept_tree, pick_first, elements_kept}
use Rattle.tf_target.proofs.KeepingLemmas.{picked_trees}
use Rattle.tf_target.proofs.WithinLemmas.{Within, within_prefix, within_map, within_filter, filter_within, still_no_element, still_once}
use Rattle.tf_target.proofs.LimitLemmas.{places_kept, members_kept, no_deeper, all_fit, names_once, ends_known, links_good, atoms_good}

-- ---- what is kept of a flow

three : (a b c : Bool) → a || b || c ≡ false → (a ≡ false) × (b ≡ false) × (c ≡ false)
three true b c is = absurd (cc)
three false true c is = absurd (cc)
three false false true is = absurd (cc)
three false false false is = (refl, refl, refl)

still_among : (part names : List (List ℕ)) (name : List ℕ) → Within part names → is_among part name ≡ true → is_among names name ≡ true
still_among part names name within is = elim (either_way (is_among names name)) [
  | inl on ↦ on
  | inr off ↦ absurd (clash (is_among part name) is (still_no_element (same_name name) part names within off))
]

fewer_pass : {X : Type 0} (p q : X → Bool) (xs : List X) → ((x : X) → q x ≡ true → p x ≡ true) → list_any p xs ≡ false → list_any q xs ≡ false
fewer_pass p q [] each none = refl
fewer_pass p q (x ∷ xs) each none =
    neither (q x) (list_any q xs) (never_true (q x) (λ is. clash (p x) (each x is) (neither_first (p x) (list_any p xs) none))) (fewer_pass p q xs each (neither_second (p x) (list_any p xs) none))

either_among : (part names : List (List ℕ)) (first second : List ℕ) → Within part names → is_among part first || is_among part second ≡ true → is_among names first || is_among names second ≡ true
either_among part names first second within is = elim (or_either (is_among part first) (is_among part second) is) [
  | inl one ↦ true_first (is_among names first) (is_among names second) (still_among part names first within one)
  | inr other ↦ true_second (is_among names first) (is_among names second) (still_among part names second within other)
]

decides_fewer : (part names : List (List ℕ)) (link : Link) → Within part names → decides_flow part link ≡ true → decides_flow names link ≡ true
decides_fewer part names link within is =
    true_both (is_some link.decider) (is_among names link.from || is_among names link.to)
    (and_first (is_some link.decider) (is_among part link.from || is_among part link.to) is)
    (either_among part names link.from link.to within (and_second (is_some link.decider) (is_among part link.from || is_among part link.to) is))

ends_kept : (names : List (List ℕ)) (links : List Link) → first_some (stray_end names) (filter (joins_kept names) links) ≡ None
ends_kept names [] = refl
ends_kept names (link ∷ links) = either (is_among names link.from) (is_among names link.to) refl refl (ends_kept names links)
  where
    either : (b c : Bool) → is_among names link.from ≡ b → is_among names link.to ≡ c → first_some (stray_end names) (filter (joins_kept names) links) ≡ None
        → first_some (stray_end names) (if b && c then link ∷ filter (joins_kept names) links else filter (joins_kept names) links) ≡ None
    either true true from to others =
        ap (λ o. option_or o (first_some (stray_end names) (filter (joins_kept names) links)))
        (ap (λ b. if b then (if is_among names link.to then None else Some link.to) else Some link.from) from ∙ ap (λ b. if b then None else Some link.to) to)
        ∙ others
    either true false from to others = others
    either false c from to others = others

mutual
  atoms_counted : (t : Tree) → length (filter is_atom (places t)) ≡ atom_count t
  atoms_counted (task t) = refl
  atoms_counted (flow head items) =
      ap length (filter_append is_atom (retry_places head.retry) (places_among items))
      ∙ (length_both (filter is_atom (retry_places head.retry)) (filter is_atom (places_among items))
      ∙ ap2 ◌+◌ (control head.retry) (atoms_counted_among items))
    where
      control : (r : Option Retry) → length (filter is_atom (retry_places r)) ≡ retry_count r
      control None = refl
      control (Some r) = refl

  atoms_counted_among : (ts : Trees) → length (filter is_atom (places_among ts)) ≡ atoms_among_count ts
  atoms_counted_among no_trees = refl
  atoms_counted_among (tree first others) =
      ap length (filter_append is_atom (places first) (places_among others))
      ∙ (length_both (filter is_atom (places first)) (filter is_atom (places_among others))
      ∙ ap2 ◌+◌ (atoms_counted first) (atoms_counted_among others))

-- the refusal of a plan of so many atoms that breaks no other rule
abbrev pub empty_if : ℕ → Option PlanFault
empty_if zero = Some fault.Empty
empty_if (suc n) = None

empty_told : (ps : List Place) → empty ps ≡ empty_if (length (filter is_atom ps))
empty_told ps = none_told (filter is_atom ps)
  where
    none_told : (found : List Place) → (if has_none found then Some fault.Empty else None) ≡ empty_if (length found)
    none_told [] = refl
    none_told (p ∷ found) = refl

-- the refusal of a tree as that of a plan's root
abbrev tree_fault : List ℕ → Tree → List Bind → Option PlanFault
tree_fault name t store = option_or (too_large (capped (nesting t)) (places t) store) (broken_rule name store (places t))

kept_fault : (test : ℕ → Bool) (head : Head) (items : Trees) (store : List Bind) → is_graph head.kind ≡ true → tree_fault head.name (flow head items) store ≡ None
    → tree_fault head.name (kept_tree test (flow head items)) store ≡ empty_if (atom_count (kept_tree test (flow head items)))
kept_fault test head items store graph none =
    let kept : Trees = kept_among test items in
    let names : List (List ℕ) = names_among kept in
    let level : Level = level_of head items in
    let less : Level = level_of (kept_head names head) kept in
    let order : List Place = retry_places head.retry ++ places_among items in
    let part : List Place = retry_places head.retry ++ places_among kept in
    let linked : Within less.links level.links = filter_within (joins_kept names) head.links in
    let among : Within less.members level.members = members_kept test items in
    let rest : Within part order = within_prefix (retry_places head.retry) (places_among kept) (places_among items) (places_kept test items) in
    let deep : ℕ = nesting (flow head items) in
    let flat : ℕ = nesting (kept_tree test (flow head items)) in
    let flatter : capped flat ≤ capped deep = omega (arith, no_deeper test items) in
    let both = neither_there (too_large (capped deep) (at_flow level ∷ order) store) (broken_rule head.name store (at_flow level ∷ order)) none in
    let rules_1 = neither_there (empty (at_flow level ∷ order)) (option_or (duplicate (at_flow level ∷ order)) (option_or (unknown (at_flow level ∷ order)) (option_or (bad_link (at_flow level ∷ order)) (bad_atom head.name store (at_flow level ∷ order))))) both.1 in
    let rules_2 = neither_there (duplicate (at_flow level ∷ order)) (option_or (unknown (at_flow level ∷ order)) (option_or (bad_link (at_flow level ∷ order)) (bad_atom head.name store (at_flow level ∷ order)))) rules_1.1 in
    let rules_3 = neither_there (unknown (at_flow level ∷ order)) (option_or (bad_link (at_flow level ∷ order)) (bad_atom head.name store (at_flow level ∷ order))) rules_2.1 in
    let rules_4 = neither_there (bad_link (at_flow level ∷ order)) (bad_atom head.name store (at_flow level ∷ order)) rules_3.1 in
    let bad : has_bad_link level ≡ false = none_if (has_bad_link level) level.name (neither_there (bad_link_at (at_flow level)) (first_some bad_link_at order) (none_mapped (λ n. fault.BadLink n) (first_some bad_link_at (at_flow level ∷ order)) rules_4.0)).0 in
    let bads = three (not (is_graph head.kind) && not (has_none head.links)) (is_some (first_again same_ends (map ends head.links))) (list_any (decides_flow (nested_names level.members)) head.links) bad in
    let fits : too_large (capped flat) (at_flow less ∷ part) store ≡ None = all_fit head.name level less order part linked among refl rest (capped deep) (capped flat) store limits flatter both.0 in
    let once : duplicate (at_flow less ∷ part) ≡ None = names_once head.name level less order part linked among refl rest rules_2.0 in
    let known : unknown (at_flow less ∷ part) ≡ None = ends_known head.name level less order part linked among refl rest (ends_kept names head.links) rules_3.0 in
    let still : has_bad_link less ≡ false = good_links level.members less.members names (not (is_graph head.kind)) graph among bads.1 bads.2 in
    let joined : bad_link (at_flow less ∷ part) ≡ None = links_good head.name level less order part linked among refl rest still rules_4.0 in
    let sound : bad_atom head.name store (at_flow less ∷ part) ≡ None = atoms_good head.name level less order part linked among refl rest store rules_4.1 in
    ap (λ o. option_or o (broken_rule head.name store (at_flow less ∷ part))) fits
    ∙ (ap (λ o. option_or (empty (at_flow less ∷ part)) (option_or o (option_or (unknown (at_flow less ∷ part)) (option_or (bad_link (at_flow less ∷ part)) (bad_atom head.name store (at_flow less ∷ part)))))) once
    ∙ (ap (λ o. option_or (empty (at_flow less ∷ part)) (option_or o (option_or (bad_link (at_flow less ∷ part)) (bad_atom head.name store (at_flow less ∷ part))))) known
    ∙ (ap (λ o. option_or (empty (at_flow less ∷ part)) (option_or o (bad_atom head.name store (at_flow less ∷ part)))) joined
    ∙ (ap (option_or (empty (at_flow less ∷ part))) sound
    ∙ (or_none (empty (at_flow less ∷ part))
    ∙ (empty_told (at_flow less ∷ part) ∙ ap empty_if (atoms_counted (kept_tree test (flow head items)))))))))
  where
    good_links : (members left : List Member) (names : List (List ℕ)) (other : Bool) → is_graph head.kind ≡ true → Within left members
        → is_some (first_again same_ends (map ends head.links)) ≡ false → list_any (decides_flow (nested_names members)) head.links ≡ false
        → (not (is_graph head.kind) && not (has_none (filter (joins_kept names) head.links))) || is_some (first_again same_ends (map ends (filter (joins_kept names) head.links))) || list_any (decides_flow (nested_names left)) (filter (joins_kept names) head.links) ≡ false
    good_links members left names other is among once undecided =
        no_three (not (is_graph head.kind) && not (has_none (filter (joins_kept names) head.links))) (is_some (first_again same_ends (map ends (filter (joins_kept names) head.links)))) (list_any (decides_flow (nested_names left)) (filter (joins_kept names) head.links))
        (ap (λ b. not b && not (has_none (filter (joins_kept names) head.links))) is)
        (ap is_some (still_once same_ends (map ends (filter (joins_kept names) head.links)) (map ends head.links) (within_map ends (filter (joins_kept names) head.links) head.links (filter_within (joins_kept names) head.links)) (nothing (first_again same_ends (map ends head.links)) once)))
        (fewer_pass (decides_flow (nested_names members)) (decides_flow (nested_names left)) (filter (joins_kept names) head.links)
        (λ link is. decides_fewer (nested_names left) (nested_names members) link (within_map (λ m. m.name) (filter (λ m. not m.is_task) left) (filter (λ m. not m.is_task) members) (within_filter (λ m. not m.is_task) left members among)) is)
        (still_no_element (decides_flow (nested_names members)) (filter (joins_kept names) head.links) head.links (filter_within (joins_kept names) head.links) undecided))
      where
        no_three : (a b c : Bool) → a ≡ false → b ≡ false → c ≡ false → a || b || c ≡ false
        no_three true b c x y z = absurd (cc)
        no_three false true c x y z = absurd (cc)
        no_three false false true x y z = absurd (cc)
        no_three false false false x y z = refl

        nothing : {X : Type 0} (o : Option X) → is_some o ≡ false → o ≡ None
        nothing None is = refl
        nothing (Some x) is = absurd (cc)

-- ---- a flow that is written as what is kept of a plan's root

picked_shorter : {X : Type 0} (test : ℕ → Bool) (xs : List X) → length (elements_kept test xs) ≤ length xs
picked_shorter test [] = omega arith
picked_shorter test (x ∷ xs) = either (test 0) (picked_shorter (λ u. test (suc u)) xs)
  where
    either : (b : Bool) → length (elements_kept (λ u. test (suc u)) xs) ≤ length xs → length (pick_first b x (elements_kept (λ u. test (suc u)) xs)) ≤ length (x ∷ xs)
    either true rest = omega (arith, rest)
    either false rest = omega (arith, rest)

-- a flow value of which what is kept is the tree
abbrev kept_value : (ℕ → Bool) → Flow → Flow
kept_value test f = record f {
  items = record f.items { items = record f.items.items { items = elements_kept test f.items.items.items; len = length (elements_kept test f.items.items.items); ok = (refl, omega (arith, picked_shorter test f.items.items.items, f.items.items.ok.0, f.items.items.ok.1)) } };
  links = filter (joins_kept (names_among (kept_among test (trees_of (map item_tree f.items.items.items))))) f.links;
}

-- what a flow has beside its items
abbrev head_of : Flow → Head
head_of f = record { name = f.name; kind = f.kind; retry = f.retry; links = f.links }

kept_value_tree : (test : ℕ → Bool) (f : Flow) → tree_of (kept_value test f) ≡ kept_tree test (tree_of f)
kept_value_tree test f =
    tree_of-flow (kept_value test f)
    ∙ (ap (flow (kept_head (names_among (kept_among test (trees_of (map item_tree f.items.items.items)))) (head_of f))) (sym (picked_trees test f.items.items.items))
    ∙ ap (kept_tree test) (sym (tree_of-flow f)))

-- the refusal of what is kept of a plan's root, a graph flow
pub kept_refused : (f made : Flow) (test : ℕ → Bool) (store : List Bind) → is_graph f.kind ≡ true → first_refusal f store ≡ None → as_written (tree_of made) ≡ as_written (kept_tree test (tree_of f))
    → first_refusal made store ≡ empty_if (atom_count (kept_tree test (tree_of f)))
kept_refused f made test store graph none same =
    let parts : tree_of f ≡ flow (head_of f) (trees_of (map item_tree f.items.items.items)) = tree_of-flow f in
    refused_alike made (kept_value test f) store (same ∙ ap as_written (sym (kept_value_tree test f)))
    ∙ (ap (λ (t : Tree). tree_fault f.name t store) (kept_value_tree test f)
    ∙ (ap (λ (t : Tree). tree_fault f.name (kept_tree test t) store) parts
    ∙ (kept_fault test (head_of f) (trees_of (map item_tree f.items.items.items)) store graph (ap (λ (t : Tree). tree_fault f.name t store) (sym parts) ∙ none)
    ∙ ap (λ (t : Tree). empty_if (atom_count (kept_tree test t))) (sym parts))))

-- each end of a link of a plan's root names one of its items
pub root_known : (f : Flow) (store : List Bind) → first_refusal f store ≡ None → first_some (stray_end (names_among (trees_of (map item_tree f.items.items.items)))) f.links ≡ None
root_known f store none =
    let items : Trees = trees_of (map item_tree f.items.items.items) in
    let level : Level = level_of (head_of f) items in
    let order : List Place = retry_places f.retry ++ places_among items in
    let whole : tree_fault f.name (flow (head_of f) items) store ≡ None = ap (λ (t : Tree). tree_fault f.name t store) (sym (tree_of-flow f)) ∙ none in
    let rules = (neither_there (too_large (capped (nesting (flow (head_of f) items))) (at_flow level ∷ order) store) (broken_rule f.name store (at_flow level ∷ order)) whole).1 in
    let after_empty = (neither_there (empty (at_flow level ∷ order)) (option_or (duplicate (at_flow level ∷ order)) (option_or (unknown (at_flow level ∷ order)) (option_or (bad_link (at_flow level ∷ order)) (bad_atom f.name store (at_flow level ∷ order))))) rules).1 in
    let after_names = (neither_there (duplicate (at_flow level ∷ order)) (option_or (unknown (at_flow level ∷ order)) (option_or (bad_link (at_flow level ∷ order)) (bad_atom f.name store (at_flow level ∷ order)))) after_empty).1 in
    let ends = (neither_there (unknown (at_flow level ∷ order)) (option_or (bad_link (at_flow level ∷ order)) (bad_atom f.name store (at_flow level ∷ order))) after_names).0 in
    (neither_there (unknown_at (at_flow level)) (first_some unknown_at order) (none_mapped (λ n. fault.Unknown n) (first_some unknown_at (at_flow level ∷ order)) ends)).0
