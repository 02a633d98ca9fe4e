-- The links with deciders that lead to a task of the root are kept.
use Rattle.std.proofs.Common.{◌≡◌, ◌∙◌, ℕ, zero, suc, ◌+◌, ◌<◌, List, [], ◌∷◌, ◌++◌, map, filter, length, Bool, true, false, Option, Some, None, refl, sym, ap, subst, inl, inr, arith, eq-eqb, slice_get}
use Rattle.std.specs.Prelude.{is_some, nat_eq, option_map, if◌then◌else◌}
use Rattle.std.specs.Option.{option_map_or}
use Rattle.std.specs.List.{list_any}
use Rattle.tf_flow.specs.Outline.{connection_of, Atom, flow_count, atom_count, enter, retry_atoms, atoms_of, atoms_among, item_of, items_of, name_of, is_task_part}
use Rattle.tf_flow.specs.Tree.{same_name, is_among, first_some, member_of, Tree, task, flow, Trees, no_trees, tree}
use Rattle.tf_flow.specs.Rules.{stray_end}
use Rattle.tf_flow.specs.declared.atoms.Retry.{Retry}
use Rattle.tf_flow.specs.declared.deciders.Link.{Link}
use Rattle.tf_flow.specs.declared.paths.Turn.{Turn}
use Rattle.tf_model.specs.Readiness.{decides_on}
use Rattle.tf_model.specs.Before.{joins, name_of_item}
use Rattle.tf_model.specs.Plan.{last_flow}
use Rattle.tf_numbers.proofs.OptionLemmas.{neither_there}
use Rattle.tf_numbers.proofs.TruthLemmas.{clash, never_true, true_first, true_second, true_both, or_either, and_first}
use Rattle.tf_target.specs.Target.{names_among}
use Rattle.tf_target.proofs.PartLemmas.{whole_turn, Between, AllBetween, flows_between}

-- a name among those of items is that of one of them
pub among_index : (ts : Trees) (n a : ℕ) (p : List ℕ → Bool) → list_any p (names_among ts) ≡ true → (u : ℕ) × (u < length (items_of n a ts)) × (p (option_map_or name_of_item (slice_get (items_of n a ts) u) []) ≡ true)
among_index no_trees n a p is = absurd (cc)
among_index (tree first others) n a p is = elim (or_either (p (member_of first).name) (list_any p (names_among others)) is) [
  | inl here ↦ (0, omega arith, ap p (named first n a) ∙ here)
  | inr there ↦ let found = among_index others (n + flow_count first) (a + atom_count first) p there in (suc found.0, omega (arith, found.1), found.2)
]
  where
    named : (t : Tree) (n a : ℕ) → (item_of n a t).name ≡ (member_of t).name
    named (task t) n a = refl
    named (flow head items) n a = refl

-- both ends of a link that isn't stray are among the names
ends_known : (names : List (List ℕ)) (link : Link) → stray_end names link ≡ None → is_among names link.from ≡ true
ends_known names link none = either (is_among names link.from) refl none
  where
    either : (b : Bool) → is_among names link.from ≡ b → (if b then (if is_among names link.to then None else Some link.to) else Some link.from) ≡ None → is_among names link.from ≡ true
    either true is none = is
    either false is none = absurd (cc)

-- links of which those that decide on a task of this name are kept
pub deciders_kept : (names : List (List ℕ)) (name : List ℕ) (kept : Link → Bool) (whole : List Link) → ((link : Link) → is_among names link.from ≡ true → list_any (joins link.from link.to) (map connection_of whole) ≡ true → same_name link.to name ≡ true → kept link ≡ true)
    → ((link : Link) (from to : List ℕ) → from ≡ link.from → to ≡ link.to → joins from to (connection_of link) ≡ true)
    → (links : List Link) → first_some (stray_end names) links ≡ None → ((from to : List ℕ) → list_any (joins from to) (map connection_of links) ≡ true → list_any (joins from to) (map connection_of whole) ≡ true)
    → filter (decides_on name) (map connection_of (filter kept links)) ≡ filter (decides_on name) (map connection_of links)
deciders_kept names name kept whole each itself [] none within = refl
deciders_kept names name kept whole each itself (link ∷ links) none within =
    let both = neither_there (stray_end names link) (first_some (stray_end names) links) none in
    by_link (kept link) refl (ends_known names link both.0)
    (deciders_kept names name kept whole each itself links both.1 (λ from to is. within from to (true_second (joins from to (connection_of link)) (list_any (joins from to) (map connection_of links)) is)))
  where
    by_link : (b : Bool) → kept link ≡ b → is_among names link.from ≡ true → filter (decides_on name) (map connection_of (filter kept links)) ≡ filter (decides_on name) (map connection_of links)
        → filter (decides_on name) (map connection_of (if b then link ∷ filter kept links else filter kept links)) ≡ filter (decides_on name) (map connection_of (link ∷ links))
    by_link true is known rest = ap (λ ys. if decides_on name (connection_of link) then connection_of link ∷ ys else ys) rest
    by_link false is known rest =
        rest ∙ sym (ap (λ b. if b then connection_of link ∷ filter (decides_on name) (map connection_of links) else filter (decides_on name) (map connection_of links))
        (never_true (decides_on name (connection_of link)) (λ on. clash (kept link)
        (each link known (within link.from link.to (true_first (joins link.from link.to (connection_of link)) (list_any (joins link.from link.to) (map connection_of links)) (itself link link.from link.to refl refl)))
        (and_first (same_name link.to name) (is_some (connection_of link).decision) on)) is)))

-- ---- the item of a task of the root

-- a path that isn't empty, in flows from one number on, doesn't end in the root
ends_later : (low high : ℕ) (w : List Turn) → 0 < low → Between low high w → last_flow w ≡ Some 0 → ⊥
ends_later low high [] some each is = absurd (cc)
ends_later low high (x ∷ []) some each is = let e : x.flow ≡ 0 = cc in absurd (omega (arith, some, each.0, e))
ends_later low high (x ∷ y ∷ xs) some each is = ends_later low high (y ∷ xs) some each.2 is

abbrev HasPath : List Turn → Type 0
HasPath [] = ⊥
HasPath (x ∷ xs) = Unit {0}

abbrev AllHavePaths : List Atom → Type 0
AllHavePaths [] = Unit {0}
AllHavePaths (x ∷ xs) = HasPath x.path × AllHavePaths xs

paths_both : (xs ys : List Atom) → AllHavePaths xs → AllHavePaths ys → AllHavePaths (xs ++ ys)
paths_both [] ys first second = second
paths_both (x ∷ xs) ys first second = (first.0, paths_both xs ys first.1 second)

paths_entered : (g i : ℕ) (xs : List Atom) → AllHavePaths (map (enter g i) xs)
paths_entered g i [] = tt
paths_entered g i (x ∷ xs) = (tt, paths_entered g i xs)

paths_among : (ts : Trees) (g i n : ℕ) → AllHavePaths (atoms_among g i n ts)
paths_among no_trees g i n = tt
paths_among (tree first others) g i n = paths_both (map (enter g i) (atoms_of n first)) (atoms_among g (suc i) (n + flow_count first) others) (paths_entered g i (atoms_of n first)) (paths_among others g (suc i) (n + flow_count first))

-- the atom is a task of the root itself
pub record IsRootTask (atom : Atom) : Type 0 where
  pub ends : last_flow atom.path ≡ Some 0
  pub tasked : is_task_part atom.part ≡ true

abbrev pub IsRootTaskIn : Option Atom → Type 0
IsRootTaskIn None = ⊥
IsRootTaskIn (Some atom) = IsRootTask atom

none_nested : (low high i : ℕ) (xs : List Atom) → 0 < low → AllBetween low high xs → AllHavePaths xs → (k : ℕ) → IsRootTaskIn (slice_get (map (enter 0 i) xs) k) → ⊥
none_nested low high i [] some each paths k is = is
none_nested low high i (x ∷ xs) some each paths zero is = by_path x.path paths.0 each.0 is.ends
  where
    by_path : (w : List Turn) → HasPath w → Between low high w → last_flow (record { flow = 0; item = Some i } ∷ w) ≡ Some 0 → ⊥
    by_path [] has between is = has
    by_path (y ∷ ys) has between is = ends_later low high (y ∷ ys) some between is
none_nested low high i (x ∷ xs) some each paths (suc k) is = none_nested low high i xs some each.1 paths.1 k is

abbrev pub name_in_part : Option Atom → List ℕ
name_in_part o = option_map_or (λ (atom : Atom). name_of atom.part) o []

-- of two lists, what stands at a place of both together
pub in_both : (P : Option Atom → Type 0) (xs ys : List Atom) → P None → ((k : ℕ) → P (slice_get xs k)) → ((k : ℕ) → P (slice_get ys k)) → (k : ℕ) → P (slice_get (xs ++ ys) k)
in_both P [] ys none first second k = second k
in_both P (x ∷ xs) ys none first second zero = first 0
in_both P (x ∷ xs) ys none first second (suc k) = in_both P xs ys none (λ j. first (suc j)) second k

pub task_named : (ts : Trees) (i n a : ℕ) (k : ℕ) → IsRootTaskIn (slice_get (atoms_among 0 i (suc n) ts) k) → (v : ℕ) × (v < length (items_of (suc n) a ts)) × (name_in_part (slice_get (atoms_among 0 i (suc n) ts) k) ≡ option_map_or name_of_item (slice_get (items_of (suc n) a ts) v) [])
task_named no_trees i n a k is = absurd is
task_named (tree (task t) others) i n a zero is = (0, omega arith, refl)
task_named (tree (task t) others) i n a (suc k) is =
    let found = task_named others (suc i) n (a + 1) k (subst (λ (m : ℕ). IsRootTaskIn (slice_get (atoms_among 0 (suc i) m others) k)) (omega arith) is) in (
      suc found.0,
      omega (arith, found.1, ap (λ (m : ℕ). length (items_of m (a + 1) others)) (plus_none n)),
      ap (λ (m : ℕ). name_in_part (slice_get (atoms_among 0 (suc i) m others) k)) (sym (plus_none n)) ∙ (found.2 ∙ ap (λ (m : ℕ). option_map_or name_of_item (slice_get (items_of m (a + 1) others) found.0) []) (plus_none n)),
    )
  where
    plus_none : (n : ℕ) → suc n ≡ suc n + 0
    plus_none n = omega arith
task_named (tree (flow head items) others) i n a k is =
    in_both (λ o. IsRootTaskIn o → (v : ℕ) × (v < length (items_of (suc n) a (tree (flow head items) others))) × (name_in_part o ≡ option_map_or name_of_item (slice_get (items_of (suc n) a (tree (flow head items) others)) v) []))
    (map (enter 0 i) (atoms_of (suc n) (flow head items))) (atoms_among 0 (suc i) (suc n + flow_count (flow head items)) others)
    (λ no_task. absurd no_task)
    (λ j there. absurd (none_nested (suc n) (suc n + flow_count (flow head items)) i (atoms_of (suc n) (flow head items)) (omega arith) (flows_between (flow head items) (suc n)) (paths_of_flow head.retry) j there))
    (behind (n + flow_count (flow head items)) (suc n + flow_count (flow head items)) (omega arith) (λ j there. task_named others (suc i) (n + flow_count (flow head items)) (a + atom_count (flow head items)) j there))
    k is
  where
    paths_of_flow : (r : Option Retry) → AllHavePaths (retry_atoms (suc n) r ++ atoms_among (suc n) 0 (suc (suc n)) items)
    paths_of_flow None = paths_among items (suc n) 0 (suc (suc n))
    paths_of_flow (Some r) = (tt, paths_among items (suc n) 0 (suc (suc n)))

    behind : (m m' : ℕ) → suc m ≡ m' → ((j : ℕ) → IsRootTaskIn (slice_get (atoms_among 0 (suc i) (suc m) others) j)
        → (v : ℕ) × (v < length (items_of (suc m) (a + atom_count (flow head items)) others)) × (name_in_part (slice_get (atoms_among 0 (suc i) (suc m) others) j) ≡ option_map_or name_of_item (slice_get (items_of (suc m) (a + atom_count (flow head items)) others) v) []))
        → (j : ℕ) → IsRootTaskIn (slice_get (atoms_among 0 (suc i) m' others) j)
        → (v : ℕ) × (v < suc (length (items_of m' (a + atom_count (flow head items)) others))) × (name_in_part (slice_get (atoms_among 0 (suc i) m' others) j) ≡ option_map_or name_of_item (slice_get (item_of (suc n) a (flow head items) ∷ items_of m' (a + atom_count (flow head items)) others) v) [])
    behind m m' same each =
        subst (λ (q : ℕ). (j : ℕ) → IsRootTaskIn (slice_get (atoms_among 0 (suc i) q others) j)
        → (v : ℕ) × (v < suc (length (items_of q (a + atom_count (flow head items)) others))) × (name_in_part (slice_get (atoms_among 0 (suc i) q others) j) ≡ option_map_or name_of_item (slice_get (item_of (suc n) a (flow head items) ∷ items_of q (a + atom_count (flow head items)) others) v) []))
        same (λ j there. let found = each j there in (suc found.0, omega (arith, found.1), found.2))

pub name_itself : (xs : List ℕ) → same_name xs xs ≡ true
name_itself [] = refl
name_itself (x ∷ xs) = true_both (nat_eq x x) (same_name xs xs) (eq-eqb x x refl) (name_itself xs)

pub last_moved : (fl it : ℕ → ℕ) (w : List Turn) → last_flow (map (whole_turn fl it) w) ≡ option_map fl (last_flow w)
last_moved fl it [] = refl
last_moved fl it (x ∷ []) = refl
last_moved fl it (x ∷ y ∷ xs) = last_moved fl it (y ∷ xs)
