-- The retry controller that a flow's number leads to stands in that flow itself, and it is the only one there.
use Rattle.std.proofs.Common.{◌≡◌, ℕ, zero, suc, ◌+◌, List, [], ◌∷◌, ◌++◌, length, map, Bool, true, false, cond, Option, Some, None, refl, sym, ap, ◌∙◌, inl, inr, subst, eqb-true, arith, slice_get}
use Rattle.std.specs.List.{AllByRecursion}
use Rattle.tf_flow.specs.declared.atoms.Retry.{Retry}
use Rattle.tf_flow.specs.Plan.{PlanValue}
use Rattle.tf_flow.specs.Tree.{Tree, Trees, task, flow, no_trees, tree, tree_of}
use Rattle.tf_flow.specs.declared.paths.Turn.{Turn}
use Rattle.tf_flow.specs.Outline.{Atom, FlowPlace, atoms_of, atoms_among, enter, retry_atoms, flows_of, flows_among, flow_count, atom_count, atoms_among_count, retry_count, retry_number}
use Rattle.tf_flow.proofs.ListingLemmas.{length_retry}
use Rattle.tf_model.specs.Before.{Flow, find_flow, has_flow_number, arrange, arranged}
use Rattle.tf_model.specs.Plan.{Outline, outline_of, is_retry, is_before, retry_of, own_flow, last_flow}
use Rattle.tf_model.proofs.Told.{path_in, is_retry_in, retry_in}
use Rattle.tf_model.proofs.BeforeLemmas.{never_before_itself, before_chain}
use Rattle.tf_facts.proofs.LayoutLemmas.{IsLaidOut, own_holds}
use Rattle.tf_numbers.proofs.TruthLemmas.{clash}
use Rattle.tf_numbers.proofs.NumberLemmas.{same_or_other}

-- ---- the atom of a number in a part of a list

get_right : (xs ys : List Atom) (n k : ℕ) → n ≡ length xs + k → slice_get (xs ++ ys) n ≡ slice_get ys k
get_right [] ys n k is = let same : n ≡ k = omega (arith, is) in ap (slice_get ys) same
get_right (x ∷ xs) ys zero k is = absurd (omega (arith, is))
get_right (x ∷ xs) ys (suc n) k is = get_right xs ys n k (omega (arith, is))

-- a retry controller whose path ends in flow g
record IsControl (g : ℕ) (o : Option Atom) : Type 0 where
  retry : is_retry_in o ≡ true
  own : last_flow (path_in o) ≡ Some g

get_left : (xs ys : List Atom) (k g : ℕ) → IsControl g (slice_get xs k) → IsControl g (slice_get (xs ++ ys) k)
get_left [] ys k g is = absurd (let no = is.retry in cc)
get_left (x ∷ xs) ys zero g is = record { retry = is.retry; own = is.own }
get_left (x ∷ xs) ys (suc k) g is = get_left xs ys k g is

longer_path : (turn : Turn) (w : List Turn) (g : ℕ) → last_flow w ≡ Some g → last_flow (turn ∷ w) ≡ Some g
longer_path turn [] g is = absurd (cc)
longer_path turn (x ∷ xs) g is = is

get_entered : (n i : ℕ) (xs : List Atom) (k g : ℕ) → IsControl g (slice_get xs k) → IsControl g (slice_get (map (enter n i) xs) k)
get_entered n i [] k g is = absurd (let no = is.retry in cc)
get_entered n i (x ∷ xs) zero g is = record { retry = is.retry; own = longer_path (record { flow = n; item = Some i }) x.path g is.own }
get_entered n i (x ∷ xs) (suc k) g is = get_entered n i xs k g is

length_both : (xs ys : List Atom) → length (xs ++ ys) ≡ length xs + length ys
length_both [] ys = omega arith
length_both (x ∷ xs) ys = let rest : length (xs ++ ys) ≡ length xs + length ys = length_both xs ys in omega (arith, rest)

length_entered : (g i : ℕ) (xs : List Atom) → length (map (enter g i) xs) ≡ length xs
length_entered g i [] = refl
length_entered g i (x ∷ xs) = ap suc (length_entered g i xs)

mutual
  length_of : (t : Tree) (g : ℕ) → length (atoms_of g t) ≡ atom_count t
  length_of (task t) g = refl
  length_of (flow head items) g =
      let both : length (retry_atoms g head.retry ++ atoms_among g 0 (suc g) items) ≡ length (retry_atoms g head.retry) + length (atoms_among g 0 (suc g) items) = length_both (retry_atoms g head.retry) (atoms_among g 0 (suc g) items) in
      let first : length (retry_atoms g head.retry) ≡ retry_count head.retry = length_retry g head.retry in
      let rest : length (atoms_among g 0 (suc g) items) ≡ atoms_among_count items = length_among items g 0 (suc g) in
      omega (arith, both, first, rest)

  length_among : (ts : Trees) (g i n : ℕ) → length (atoms_among g i n ts) ≡ atoms_among_count ts
  length_among no_trees g i n = refl
  length_among (tree first others) g i n =
      let both : length (map (enter g i) (atoms_of n first) ++ atoms_among g (suc i) (n + flow_count first) others) ≡ length (map (enter g i) (atoms_of n first)) + length (atoms_among g (suc i) (n + flow_count first) others)
      = length_both (map (enter g i) (atoms_of n first)) (atoms_among g (suc i) (n + flow_count first) others) in
      let entered : length (map (enter g i) (atoms_of n first)) ≡ length (atoms_of n first) = length_entered g i (atoms_of n first) in
      let here : length (atoms_of n first) ≡ atom_count first = length_of first n in
      let rest : length (atoms_among g (suc i) (n + flow_count first) others) ≡ atoms_among_count others = length_among others g (suc i) (n + flow_count first) in
      omega (arith, both, entered, here, rest)

-- ---- each flow's retry controller

-- number r, counted from a on in a list, is that of the retry controller of flow g
record IsOwned (xs : List Atom) (a g r : ℕ) : Type 0 where
  place : ℕ
  is : r ≡ a + place
  control : IsControl g (slice_get xs place)

-- so is the retry controller of a place, where it has one
abbrev Owns : List Atom → ℕ → FlowPlace → Type 0
Owns xs a p = (r : ℕ) → p.retry ≡ Some r → IsOwned xs a p.number r

all_both : (P : FlowPlace → Type 0) (ps qs : List FlowPlace) → AllByRecursion P ps → AllByRecursion P qs → AllByRecursion P (ps ++ qs)
all_both P [] qs first second = second
all_both P (p ∷ ps) qs first second = (first.0, all_both P ps qs first.1 second)

all_changed : (P Q : FlowPlace → Type 0) (ps : List FlowPlace) → AllByRecursion P ps → ((p : FlowPlace) → P p → Q p) → AllByRecursion Q ps
all_changed P Q [] all gives = tt
all_changed P Q (p ∷ ps) all gives = (gives p all.0, all_changed P Q ps all.1 gives)

-- counted in a longer list
owned_right : (xs ys : List Atom) (a b g r n : ℕ) → length xs ≡ n → b ≡ a + n → IsOwned ys b g r → IsOwned (xs ++ ys) a g r
owned_right xs ys a b g r n long from is = record {
  place = n + is.place;
  is = let at : r ≡ b + is.place = is.is in omega (arith, at, from);
  control = subst (IsControl g) (sym (get_right xs ys (n + is.place) is.place (omega (arith, long)))) is.control;
}

owned_left : (n i : ℕ) (xs ys : List Atom) (a g r : ℕ) → IsOwned xs a g r → IsOwned (map (enter n i) xs ++ ys) a g r
owned_left n i xs ys a g r is = record { place = is.place; is = is.is; control = get_left (map (enter n i) xs) ys is.place g (get_entered n i xs is.place g is.control) }

own_first : (g a : ℕ) (control : Option Retry) (ys : List Atom) (r : ℕ) → retry_number a control ≡ Some r → IsOwned (retry_atoms g control ++ ys) a g r
own_first g a None ys r is = absurd (cc)
own_first g a (Some control) ys r is = let same : a ≡ r = cc in record { place = 0; is = omega (arith, same); control = record { retry = refl; own = refl } }

mutual
  owns_of : (t : Tree) (g a : ℕ) → AllByRecursion (Owns (atoms_of g t) a) (flows_of g a t)
  owns_of (task t) g a = tt
  owns_of (flow head items) g a = (
    λ r is. own_first g a head.retry (atoms_among g 0 (suc g) items) r is,
    all_changed (Owns (atoms_among g 0 (suc g) items) (a + retry_count head.retry)) (Owns (retry_atoms g head.retry ++ atoms_among g 0 (suc g) items) a) (flows_among (suc g) (a + retry_count head.retry) items)
        (owns_among items g 0 (suc g) (a + retry_count head.retry))
        (λ p owns r is. owned_right (retry_atoms g head.retry) (atoms_among g 0 (suc g) items) a (a + retry_count head.retry) p.number r (retry_count head.retry) (length_retry g head.retry) refl (owns r is)),
  )

  owns_among : (ts : Trees) (g i n a : ℕ) → AllByRecursion (Owns (atoms_among g i n ts) a) (flows_among n a ts)
  owns_among no_trees g i n a = tt
  owns_among (tree first others) g i n a =
      all_both (Owns (atoms_among g i n (tree first others)) a) (flows_of n a first) (flows_among (n + flow_count first) (a + atom_count first) others)
      (all_changed (Owns (atoms_of n first) a) (Owns (atoms_among g i n (tree first others)) a) (flows_of n a first) (owns_of first n a)
      (λ p owns r is. owned_left g i (atoms_of n first) (atoms_among g (suc i) (n + flow_count first) others) a p.number r (owns r is)))
      (all_changed (Owns (atoms_among g (suc i) (n + flow_count first) others) (a + atom_count first)) (Owns (atoms_among g i n (tree first others)) a) (flows_among (n + flow_count first) (a + atom_count first) others)
      (owns_among others g (suc i) (n + flow_count first) (a + atom_count first))
      (λ p owns r is. owned_right (map (enter g i) (atoms_of n first)) (atoms_among g (suc i) (n + flow_count first) others) a (a + atom_count first) p.number r (atom_count first)
      (length_entered g i (atoms_of n first) ∙ length_of first n) refl (owns r is)))

-- ---- of a plan

found_owns : (xs : List Atom) (a g : ℕ) (first : Flow) (others : List Flow) (b : Bool) → has_flow_number g first ≡ b → Owns xs a first.place → ((r : ℕ) → retry_in (find_flow others g) ≡ Some r → IsOwned xs a g r)
    → (r : ℕ) → retry_in (cond b (Some first) (find_flow others g)) ≡ Some r → IsOwned xs a g r
found_owns xs a g first others true number here there r is = subst (λ (n : ℕ). IsOwned xs a n r) (eqb-true first.place.number g number) (here r is)
found_owns xs a g first others false number here there r is = there r is

each_owns : (xs atoms : List Atom) (a g : ℕ) (places : List FlowPlace) → AllByRecursion (Owns xs a) places → (r : ℕ) → retry_in (find_flow (arranged atoms places) g) ≡ Some r → IsOwned xs a g r
each_owns xs atoms a g [] all r is = absurd (cc)
each_owns xs atoms a g (place ∷ places) all r is =
    found_owns xs a g (arrange atoms (arranged atoms places) place) (arranged atoms places) (has_flow_number g (arrange atoms (arranged atoms places) place)) refl all.0 (each_owns xs atoms a g places all.1) r is

-- the retry controller of a flow stands in it itself
pub record StandsIn (plan : Outline) (g r : ℕ) : Type 0 where
  pub retry : is_retry plan r ≡ true
  pub own : own_flow plan r ≡ Some g

pub controller_stands : (plan : PlanValue) (g r : ℕ) → retry_of (outline_of plan) g ≡ Some r → StandsIn (outline_of plan) g r
controller_stands plan g r is =
    let atoms = atoms_of 0 (tree_of plan.root) in
    let found = each_owns atoms atoms 0 g (flows_of 0 0 (tree_of plan.root)) (owns_of (tree_of plan.root) 0 0) r is in
    let same : r ≡ found.place = let at : r ≡ 0 + found.place = found.is in omega (arith, at) in
    record {
      retry = ap (λ (k : ℕ). is_retry_in (slice_get atoms k)) same ∙ found.control.retry;
      own = ap (λ (k : ℕ). last_flow (path_in (slice_get atoms k))) same ∙ found.control.own;
    }

-- a flow has one retry controller
pub one_controller : (plan : Outline) → IsLaidOut plan → (g r c : ℕ) → StandsIn plan g r → StandsIn plan g c → r ≡ c
one_controller plan layout g r c one other = elim (same_or_other r c) [
  | inl same ↦ same
  | inr apart ↦
      let first : is_before plan r c ≡ true = layout.retry_first r g c one.retry one.own (own_holds plan c g other.own) apart in
      let second : is_before plan c r ≡ true = layout.retry_first c g r other.retry other.own (own_holds plan r g one.own) (λ same. apart (sym same)) in
      absurd (clash (is_before plan r r) (before_chain plan layout.ordered r c r first second) (never_before_itself plan r))
]
