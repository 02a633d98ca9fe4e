-- What is read of the atoms of a part is read of the same atoms of the whole.
use Rattle.std.proofs.Common.{◌≡◌, ◌∙◌, ℕ, zero, suc, ◌+◌, ◌-◌, ◌<◌, ◌≤◌, List, [], ◌∷◌, ◌++◌, map, length, Bool, true, false, not, ◌&&◌, ◌||◌, Option, Some, None, filter, flat_map, refl, sym, ap, inl, inr, ◌⊎◌, arith, eqb-true, eq-eqb, slice_get}
use Rattle.std.specs.Prelude.{nat_eq, option_map, if◌then◌else◌}
use Rattle.std.specs.Option.{option_map_or}
use Rattle.std.proofs.Math.Path.{fun_ext}
use Rattle.std.proofs.lemmas.Bool.{cases_lt}
use Rattle.std.proofs.lemmas.Option.{slice_get_past}
use Rattle.tf_flow.specs.Outline.{Part, Atom, atom_path, part_of}
use Rattle.tf_flow.specs.declared.paths.Turn.{Turn}
use Rattle.tf_model.specs.Before.{Flow, item_before, turn_before, path_before, part_at, path_at, same_place, takes_item, passes_item, taken_symbols, listed, provides_at, is_inside, serves_inside, needs_of_atom, needs, gives_inside, item_provides}
use Rattle.tf_flow.specs.Tree.{is_among}
use Rattle.tf_model.proofs.Told.{path_in}
use Rattle.tf_numbers.specs.Numbers.{any_below, which_below}
use Rattle.tf_numbers.proofs.EquationLemmas.{ap2}
use Rattle.tf_numbers.proofs.TruthLemmas.{same_truth, clash, and_first}
use Rattle.tf_target.proofs.ImageLemmas.{Image, any_image, which_image}
use Rattle.tf_target.proofs.PartLemmas.{item_at, item_in, whole_turn, whole_atom, Avoids, AtomsMoved, all_moved, atom_kept, atom_left}

-- how the numbers of a part go over into those of the whole
pub record Carried (fl at it : ℕ → ℕ) (part whole : List Atom) : Type 0 where
  pub root : fl 0 ≡ 0
  pub nested : (g : ℕ) → 0 < g → 0 < fl g
  pub flow_once : (g h : ℕ) → fl g ≡ fl h → g ≡ h
  pub item_once : (u v : ℕ) → it u ≡ it v → u ≡ v
  pub rises : (a b : ℕ) → a < b → at a < at b
  pub atoms : (a : ℕ) → slice_get whole (at a) ≡ option_map (whole_atom fl it) (slice_get part a)
  pub kept : (a : ℕ) → Image at (length part) a ⊎ Avoids fl it (path_in (slice_get whole a))

-- ---- from one atom to the next

get_later : {X : Type 0} (x : X) (xs : List X) (n b : ℕ) → suc b ≤ n → slice_get (x ∷ xs) (n - b) ≡ slice_get xs (n - suc b)
get_later x xs n b le = let e : n - b ≡ suc (n - suc b) = omega (arith, le) in ap (slice_get (x ∷ xs)) e

pub moved_at : (fl at it : ℕ → ℕ) (a b : ℕ) (xs ys : List Atom) → AtomsMoved fl at it a b xs ys → (k : ℕ) → k < length xs → (b ≤ at (a + k)) × (slice_get ys (at (a + k) - b) ≡ option_map (whole_atom fl it) (slice_get xs k))
moved_at fl at it _ _ _ _ (all_moved a b) k below = absurd (omega (arith, below))
moved_at fl at it _ _ _ _ (atom_kept a b x y xs ys is same rest) zero below =
    let here : at (a + 0) ≡ b = ap at (omega arith) ∙ is in
    let none : at (a + 0) - b ≡ 0 = omega (arith, here) in
    (omega (arith, here), ap (slice_get (y ∷ ys)) none ∙ ap Some same)
moved_at fl at it _ _ _ _ (atom_kept a b x y xs ys is same rest) (suc k) below =
    let later = moved_at fl at it (suc a) (suc b) xs ys rest k (omega (arith, below)) in
    let e : a + suc k ≡ suc a + k = omega arith in
    let low : suc b ≤ at (suc a + k) = later.0 in
    (ap_le (sym (ap at e)) (omega (arith, low)), ap (λ (n : ℕ). slice_get (y ∷ ys) (n - b)) (ap at e) ∙ (get_later y ys (at (suc a + k)) b low ∙ later.1))
  where
    ap_le : {m n k : ℕ} → m ≡ n → k ≤ m → k ≤ n
    ap_le same le = omega (arith, same, le)
moved_at fl at it _ _ _ _ (atom_left a b y xs ys avoids rest) k below =
    let later = moved_at fl at it a (suc b) xs ys rest k below in
    let low : suc b ≤ at (a + k) = later.0 in
    (omega (arith, low), get_later y ys (at (a + k)) b low ∙ later.1)

pub moved_or_left : (fl at it : ℕ → ℕ) (a b : ℕ) (xs ys : List Atom) → AtomsMoved fl at it a b xs ys → (k : ℕ) → k < length ys
    → ((j : ℕ) × (j < length xs) × (at (a + j) ≡ b + k)) ⊎ Avoids fl it (path_in (slice_get ys k))
moved_or_left fl at it _ _ _ _ (all_moved a b) k below = absurd (omega (arith, below))
moved_or_left fl at it _ _ _ _ (atom_kept a b x y xs ys is same rest) zero below = inl (0, omega arith, ap at (omega arith) ∙ (is ∙ omega arith))
moved_or_left fl at it _ _ _ _ (atom_kept a b x y xs ys is same rest) (suc k) below = elim (moved_or_left fl at it (suc a) (suc b) xs ys rest k (omega (arith, below))) [
  | inl found ↦ inl (suc found.0, omega (arith, found.1), ap at (omega arith) ∙ (found.2 ∙ omega arith))
  | inr avoids ↦ inr avoids
]
moved_or_left fl at it _ _ _ _ (atom_left a b y xs ys avoids rest) zero below = inr avoids
moved_or_left fl at it _ _ _ _ (atom_left a b y xs ys avoids rest) (suc k) below = elim (moved_or_left fl at it a (suc b) xs ys rest k (omega (arith, below))) [
  | inl found ↦ inl (found.0, found.1, found.2 ∙ omega arith)
  | inr avoids ↦ inr avoids
]

-- ---- what is read of atoms

module _ (fl at it : ℕ → ℕ) (part whole : List Atom) (c : Carried fl at it part whole) where
  pub part_carried : (a : ℕ) → part_at whole (at a) ≡ part_at part a
  part_carried a = ap (option_map part_of) (c.atoms a) ∙ told (slice_get part a)
    where
      told : (o : Option Atom) → option_map part_of (option_map (whole_atom fl it) o) ≡ option_map part_of o
      told None = refl
      told (Some x) = refl

  pub path_carried : (a : ℕ) → path_at whole (at a) ≡ map (whole_turn fl it) (path_at part a)
  path_carried a = ap (λ (o : Option Atom). option_map_or atom_path o []) (c.atoms a) ∙ told (slice_get part a)
    where
      told : (o : Option Atom) → option_map_or atom_path (option_map (whole_atom fl it) o) [] ≡ map (whole_turn fl it) (option_map_or atom_path o [])
      told None = refl
      told (Some x) = refl

  pub flows_same : (g h : ℕ) → nat_eq (fl g) (fl h) ≡ nat_eq g h
  flows_same g h = same_truth (nat_eq (fl g) (fl h)) (nat_eq g h) (λ is. eq-eqb g h (c.flow_once g h (eqb-true (fl g) (fl h) is))) (λ is. eq-eqb (fl g) (fl h) (ap fl (eqb-true g h is)))

  pub items_same : (g u v : ℕ) → nat_eq (item_at it g u) (item_at it g v) ≡ nat_eq u v
  items_same zero u v = same_truth (nat_eq (it u) (it v)) (nat_eq u v) (λ is. eq-eqb u v (c.item_once u v (eqb-true (it u) (it v) is))) (λ is. eq-eqb (it u) (it v) (ap it (eqb-true u v is)))
  items_same (suc g) u v = refl

  places_alike : (g : ℕ) (o p : Option ℕ) → same_place (item_in it g o) (item_in it g p) ≡ same_place o p
  places_alike g None None = refl
  places_alike g None (Some v) = refl
  places_alike g (Some u) None = refl
  places_alike g (Some u) (Some v) = items_same g u v

  takes_carried : (g : ℕ) (o : Option ℕ) (x : Turn) → takes_item (fl g) (item_in it g o) (whole_turn fl it x) ≡ takes_item g o x
  takes_carried g o x = ap (λ b. b && same_place (item_in it x.flow x.item) (item_in it g o)) (flows_same x.flow g) ∙ by_flow (nat_eq x.flow g) refl
    where
      by_flow : (b : Bool) → nat_eq x.flow g ≡ b → b && same_place (item_in it x.flow x.item) (item_in it g o) ≡ b && same_place x.item o
      by_flow true is = ap (λ (h : ℕ). same_place (item_in it h x.item) (item_in it g o)) (eqb-true x.flow g is) ∙ places_alike g x.item o
      by_flow false is = refl

  pub passes_alike : (g : ℕ) (o : Option ℕ) (w : List Turn) → passes_item (fl g) (item_in it g o) (map (whole_turn fl it) w) ≡ passes_item g o w
  passes_alike g o [] = refl
  passes_alike g o (x ∷ xs) = ap2 (λ a b. a || b) (takes_carried g o x) (passes_alike g o xs)

  pub passes_carried : (g v : ℕ) (w : List Turn) → passes_item (fl g) (Some (item_at it g v)) (map (whole_turn fl it) w) ≡ passes_item g (Some v) w
  passes_carried g v w = passes_alike g (Some v) w

  pub inside_carried : (g v a : ℕ) → is_inside whole (fl g) (item_at it g v) (at a) ≡ is_inside part g v a
  inside_carried g v a = ap (passes_item (fl g) (Some (item_at it g v))) (path_carried a) ∙ passes_carried g v (path_at part a)

  -- ---- tests of numbers

  past_part : length whole ≤ at (length part)
  past_part = elim (cases_lt (at (length part)) (length whole)) [
    | inl below ↦ absurd (there whole (at (length part)) below (c.atoms (length part) ∙ ap (option_map (whole_atom fl it)) (slice_get_past part (length part) (omega arith))))
    | inr from ↦ from
  ]
    where
      there : (xs : List Atom) (k : ℕ) → k < length xs → slice_get xs k ≡ None → ⊥
      there [] k below is = absurd (omega (arith, below))
      there (x ∷ xs) zero below is = absurd (cc)
      there (x ∷ xs) (suc k) below is = there xs k (omega (arith, below)) is

  pub within_whole : (a : ℕ) → a < length part → at a < length whole
  within_whole a below = elim (cases_lt (at a) (length whole)) [
    | inl is ↦ is
    | inr from ↦ absurd (none part a below (sym (c.atoms a) ∙ slice_get_past whole (at a) from))
  ]
    where
      none : (xs : List Atom) (k : ℕ) → k < length xs → option_map (whole_atom fl it) (slice_get xs k) ≡ None → ⊥
      none [] k below is = absurd (omega (arith, below))
      none (x ∷ xs) zero below is = absurd (cc)
      none (x ∷ xs) (suc k) below is = none xs k (omega (arith, below)) is

  pub any_carried : (p q : ℕ → Bool) → ((a : ℕ) → q (at a) ≡ p a) → ((a : ℕ) → q a ≡ true → Image at (length part) a) → any_below (length whole) q ≡ any_below (length part) p
  any_carried p q same only = any_image at (length part) (length whole) c.rises within_whole past_part p q (λ a below. same a) (λ a below. only a)

  pub which_carried : (p q : ℕ → Bool) → ((a : ℕ) → q (at a) ≡ p a) → ((a : ℕ) → q a ≡ true → Image at (length part) a) → which_below (length whole) q ≡ map at (which_below (length part) p)
  which_carried p q same only = which_image at (length part) (length whole) c.rises within_whole past_part p q (λ a below. same a) (λ a below. only a)

  -- an atom in an item of a flow that is kept is kept
  pub inside_kept : (g v a : ℕ) → is_inside whole (fl g) (item_at it g v) a ≡ true → Image at (length part) a
  inside_kept g v a is = elim (c.kept a) [
    | inl image ↦ image
    | inr avoids ↦ absurd (clash (is_inside whole (fl g) (item_at it g v) a) is (avoids g (Some v)))
  ]

  -- ---- what is provided and what is needed

  pub provides_carried : (symbol : List ℕ) (a : ℕ) → provides_at whole symbol (at a) ≡ provides_at part symbol a
  provides_carried symbol a = ap (λ (o : Option Part). is_among (option_map_or listed o []) symbol) (part_carried a)

  pub provided_carried : (g : ℕ) (symbol : List ℕ) (u : ℕ) → item_provides whole (fl g) symbol (item_at it g u) ≡ item_provides part g symbol u
  provided_carried g symbol u = any_carried (gives_inside part g u symbol) (gives_inside whole (fl g) (item_at it g u) symbol)
      (λ a. ap2 (λ x y. x && y) (inside_carried g u a) (provides_carried symbol a))
      (λ a is. inside_kept g u a (and_first (is_inside whole (fl g) (item_at it g u) a) (provides_at whole symbol a) is))

  -- which item comes before which is the same in flows that are arranged already
  abbrev pub OrdersCarried : List Flow → List Flow → Type 0
  OrdersCarried inner all = (g u v : ℕ) → item_before all (fl g) (item_at it g u) (item_at it g v) ≡ item_before inner g u v

  turn_carried : (inner all : List Flow) → OrdersCarried inner all → (g : ℕ) (o p : Option ℕ) (below under : Bool) → under ≡ below → turn_before all (fl g) (item_in it g o) (item_in it g p) under ≡ turn_before inner g o p below
  turn_carried inner all orders g None None below under same = refl
  turn_carried inner all orders g None (Some v) below under same = refl
  turn_carried inner all orders g (Some u) None below under same = refl
  turn_carried inner all orders g (Some u) (Some v) below under same =
      ap (λ b. if b then under else item_before all (fl g) (item_at it g u) (item_at it g v)) (items_same g u v)
      ∙ ap2 (λ x y. if nat_eq u v then x else y) same (orders g u v)

  pub before_carried : (inner all : List Flow) → OrdersCarried inner all → (v w : List Turn) → path_before all (map (whole_turn fl it) v) (map (whole_turn fl it) w) ≡ path_before inner v w
  before_carried inner all orders [] w = refl
  before_carried inner all orders (x ∷ xs) [] = refl
  before_carried inner all orders (x ∷ xs) (y ∷ ys) =
      let rest : path_before all (map (whole_turn fl it) xs) (map (whole_turn fl it) ys) ≡ path_before inner xs ys = before_carried inner all orders xs ys in
      ap (λ b. b && turn_before all (fl x.flow) (item_in it x.flow x.item) (item_in it y.flow y.item) (path_before all (map (whole_turn fl it) xs) (map (whole_turn fl it) ys))) (flows_same x.flow y.flow)
      ∙ by_flow inner all orders x y (path_before inner xs ys) (path_before all (map (whole_turn fl it) xs) (map (whole_turn fl it) ys)) rest (nat_eq x.flow y.flow) refl
    where
      by_flow : (inner all : List Flow) → OrdersCarried inner all → (x y : Turn) (below under : Bool) → under ≡ below → (b : Bool) → nat_eq x.flow y.flow ≡ b
          → b && turn_before all (fl x.flow) (item_in it x.flow x.item) (item_in it y.flow y.item) under ≡ b && turn_before inner x.flow x.item y.item below
      by_flow inner all orders x y below under same true is =
          ap (λ (h : ℕ). turn_before all (fl x.flow) (item_in it x.flow x.item) (item_in it h y.item) under) (sym (eqb-true x.flow y.flow is)) ∙ turn_carried inner all orders x.flow x.item y.item below under same
      by_flow inner all orders x y below under same false is = refl

  serves_carried : (inner all : List Flow) → OrdersCarried inner all → (g v : ℕ) (symbol : List ℕ) (a b : ℕ) → serves_inside whole all (fl g) (item_at it g v) symbol (at a) (at b) ≡ serves_inside part inner g v symbol a b
  serves_carried inner all orders g v symbol a b =
      ap2 (λ x y. x && y) (inside_carried g v b) (ap2 (λ x y. x && y) (provides_carried symbol b)
      (ap2 (path_before all) (path_carried b) (path_carried a) ∙ before_carried inner all orders (path_at part b) (path_at part a)))

  needs_of_carried : (inner all : List Flow) → OrdersCarried inner all → (g v a : ℕ) → needs_of_atom whole all (fl g) (item_at it g v) (at a) ≡ needs_of_atom part inner g v a
  needs_of_carried inner all orders g v a =
      ap2 (λ (test : List ℕ → Bool) (o : Option Part). filter test (option_map_or taken_symbols o []))
      (fun_ext (λ symbol. ap not (any_carried (serves_inside part inner g v symbol a) (serves_inside whole all (fl g) (item_at it g v) symbol (at a)) (serves_carried inner all orders g v symbol a)
      (λ b is. inside_kept g v b (and_first (is_inside whole (fl g) (item_at it g v) b) (provides_at whole symbol b && path_before all (path_at whole b) (path_at whole (at a))) is)))))
      (part_carried a)

  flat_moved : {X : Type 0} (f h : ℕ → List X) → ((a : ℕ) → f (at a) ≡ h a) → (xs : List ℕ) → flat_map f (map at xs) ≡ flat_map h xs
  flat_moved f h same [] = refl
  flat_moved f h same (x ∷ xs) = ap2 (λ ys zs. ys ++ zs) (same x) (flat_moved f h same xs)

  pub needs_carried : (inner all : List Flow) → OrdersCarried inner all → (g v : ℕ) → needs whole all (fl g) (item_at it g v) ≡ needs part inner g v
  needs_carried inner all orders g v =
      ap (flat_map (needs_of_atom whole all (fl g) (item_at it g v))) (which_carried (is_inside part g v) (is_inside whole (fl g) (item_at it g v)) (inside_carried g v) (inside_kept g v))
      ∙ flat_moved (needs_of_atom whole all (fl g) (item_at it g v)) (needs_of_atom part inner g v) (needs_of_carried inner all orders g v) (which_below (length part) (is_inside part g v))
