-- The scopes of what is kept are those of the whole.
use Rattle.std.proofs.Common.{◌≡◌, ◌∙◌, ℕ, zero, suc, ◌+◌, ◌<◌, ◌≤◌, List, [], ◌∷◌, ◌++◌, map, filter, flat_map, Bool, true, false, Option, Some, None, refl, sym, ap, inl, inr, arith, eqb-true, eq-eqb}
use Rattle.std.specs.Prelude.{nat_eq, reverse, take_while, if◌then◌else◌}
use Rattle.std.proofs.Math.Path.{fun_ext}
use Rattle.std.proofs.lemmas.List.{reverse-append}
use Rattle.std.proofs.lemmas.List.Sums.{take_while-cons}
use Rattle.tf_flow.specs.declared.paths.Turn.{Turn}
use Rattle.tf_model.specs.Before.{Flow, item_before, turn_before, path_before, same_place, takes_item, passes_item}
use Rattle.tf_numbers.specs.Numbers.{any_below}
use Rattle.tf_numbers.proofs.BelowLemmas.{any_of, never_any}
use Rattle.tf_numbers.proofs.EquationLemmas.{ap2}
use Rattle.tf_numbers.proofs.ListLemmas.{filter_append, map_append, nothing_after}
use Rattle.tf_numbers.proofs.TruthLemmas.{never_true, clash, and_first, and_second, true_both, true_first, either_way}
use Rattle.tf_target.proofs.PartLemmas.{item_at, item_in, whole_turn, Avoids, Absent}
use Rattle.tf_target.proofs.NestedLemmas.{NoneKept}

-- ---- lists

filter_reverse : (p : ℕ → Bool) (xs : List ℕ) → filter p (reverse xs) ≡ reverse (filter p xs)
filter_reverse p [] = refl
filter_reverse p (x ∷ xs) =
    ap (filter p) (reverse-append (x ∷ []) xs)
    ∙ (filter_append p (reverse xs) (x ∷ [])
    ∙ (ap (λ ys. ys ++ filter p (x ∷ [])) (filter_reverse p xs) ∙ last (p x)))
  where
    last : (b : Bool) → reverse (filter p xs) ++ (if b then x ∷ [] else []) ≡ reverse (if b then x ∷ filter p xs else filter p xs)
    last true = sym (reverse-append (x ∷ []) (filter p xs))
    last false = nothing_after (reverse (filter p xs))

pub map_reverse : {X Y : Type 0} (f : X → Y) (xs : List X) → map f (reverse xs) ≡ reverse (map f xs)
map_reverse f [] = refl
map_reverse f (x ∷ xs) =
    ap (map f) (reverse-append (x ∷ []) xs)
    ∙ (map_append f (reverse xs) (x ∷ [])
    ∙ (ap (λ ys. ys ++ f x ∷ []) (map_reverse f xs) ∙ sym (reverse-append (f x ∷ []) (map f xs))))

filter_map : (at : ℕ → ℕ) (p : ℕ → Bool) (xs : List ℕ) → filter p (map at xs) ≡ map at (filter (λ x. p (at x)) xs)
filter_map at p [] = refl
filter_map at p (x ∷ xs) = ap (λ ys. if p (at x) then at x ∷ ys else ys) (filter_map at p xs) ∙ first (p (at x))
  where
    first : (b : Bool) → (if b then at x ∷ map at (filter (λ x. p (at x)) xs) else map at (filter (λ x. p (at x)) xs)) ≡ map at (if b then x ∷ filter (λ x. p (at x)) xs else filter (λ x. p (at x)) xs)
    first true = refl
    first false = refl

take_map : (at : ℕ → ℕ) (q : ℕ → Bool) (xs : List ℕ) → take_while q (map at xs) ≡ map at (take_while (λ x. q (at x)) xs)
take_map at q [] = refl
take_map at q (x ∷ xs) =
    take_while-cons q (at x) (map at xs)
    ∙ (ap (λ ys. if q (at x) then at x ∷ ys else []) (take_map at q xs) ∙ (first (q (at x)) ∙ ap (map at) (sym (take_while-cons (λ x. q (at x)) x xs))))
  where
    first : (b : Bool) → (if b then at x ∷ map at (take_while (λ x. q (at x)) xs) else []) ≡ map at (if b then x ∷ take_while (λ x. q (at x)) xs else [])
    first true = refl
    first false = refl

take_kept : (p q i : ℕ → Bool) → ((x : ℕ) → i x ≡ false → p x ≡ false) → ((x : ℕ) → i x ≡ false → q x ≡ true) → (xs : List ℕ) → filter p (take_while q xs) ≡ filter p (take_while q (filter i xs))
take_kept p q i fails goes [] = refl
take_kept p q i fails goes (x ∷ xs) = by_image (i x) refl (take_kept p q i fails goes xs)
  where
    by_turn : (b : Bool) → filter p (take_while q xs) ≡ filter p (take_while q (filter i xs)) → filter p (if b then x ∷ take_while q xs else []) ≡ filter p (if b then x ∷ take_while q (filter i xs) else [])
    by_turn true rest = ap (λ ys. if p x then x ∷ ys else ys) rest
    by_turn false rest = refl

    by_image : (b : Bool) → i x ≡ b → filter p (take_while q xs) ≡ filter p (take_while q (filter i xs)) → filter p (take_while q (x ∷ xs)) ≡ filter p (take_while q (if b then x ∷ filter i xs else filter i xs))
    by_image true is rest = ap (filter p) (take_while-cons q x xs) ∙ (by_turn (q x) rest ∙ ap (filter p) (sym (take_while-cons q x (filter i xs))))
    by_image false is rest =
        ap (filter p) (take_while-cons q x xs)
        ∙ (ap (λ b. filter p (if b then x ∷ take_while q xs else [])) (goes x is)
        ∙ (ap (λ b. if b then x ∷ filter p (take_while q xs) else filter p (take_while q xs)) (fails x is) ∙ rest))

-- ---- the atoms that are kept

abbrev pub is_image : (ℕ → ℕ) → ℕ → Bool
is_image at b = any_below (suc b) (λ k. nat_eq (at k) b)

above : (at : ℕ → ℕ) → ((a b : ℕ) → a < b → at a < at b) → (k : ℕ) → k ≤ at k
above at rises zero = omega arith
above at rises (suc k) = omega (arith, above at rises k, rises k (suc k) (omega arith))

pub image_yes : (at : ℕ → ℕ) → ((a b : ℕ) → a < b → at a < at b) → (k : ℕ) → is_image at (at k) ≡ true
image_yes at rises k = any_of (suc (at k)) (λ j. nat_eq (at j) (at k)) k (omega (arith, above at rises k)) (eq-eqb (at k) (at k) refl)

image_not : (at : ℕ → ℕ) (b : ℕ) → Absent at b → is_image at b ≡ false
image_not at b absent = never_any (suc b) (λ k. nat_eq (at k) b) (λ k below. never_true (nat_eq (at k) b) (λ is. absent k (eqb-true (at k) b is)))

pub filter_images : (at : ℕ → ℕ) → ((a b : ℕ) → a < b → at a < at b) → (xs : List ℕ) → filter (is_image at) (map at xs) ≡ map at xs
filter_images at rises [] = refl
filter_images at rises (x ∷ xs) = ap2 (λ b ys. if b then at x ∷ ys else ys) (image_yes at rises x) (filter_images at rises xs)

pub filter_left : (at : ℕ → ℕ) (xs : List ℕ) → NoneKept at xs → filter (is_image at) xs ≡ []
filter_left at [] none = refl
filter_left at (x ∷ xs) none = ap2 (λ b ys. if b then x ∷ ys else ys) (image_not at x none.0) (filter_left at xs none.1)

pub filter_flat : (i test : ℕ → Bool) (f : ℕ → List ℕ) → ((x : ℕ) → test x ≡ true → filter i (f x) ≡ f x) → ((x : ℕ) → test x ≡ false → filter i (f x) ≡ []) → (xs : List ℕ) → filter i (flat_map f xs) ≡ flat_map f (filter test xs)
filter_flat i test f whole none [] = refl
filter_flat i test f whole none (x ∷ xs) = filter_append i (f x) (flat_map f xs) ∙ (ap (λ ys. filter i (f x) ++ ys) (filter_flat i test f whole none xs) ∙ by_test (test x) refl)
  where
    by_test : (b : Bool) → test x ≡ b → filter i (f x) ++ flat_map f (filter test xs) ≡ flat_map f (if b then x ∷ filter test xs else filter test xs)
    by_test true on = ap (λ ys. ys ++ flat_map f (filter test xs)) (whole x on)
    by_test false off = ap (λ ys. ys ++ flat_map f (filter test xs)) (none x off)

-- ---- an atom that is left out is before none that is kept

module _ (fl it : ℕ → ℕ) (flows : List Flow) (back : (g v u : ℕ) → item_before flows (fl g) v (item_at it g u) ≡ true → (j : ℕ) × (item_at it g j ≡ v)) where
  meets : (x : Turn) (xs : List Turn) (g : ℕ) (o : Option ℕ) → x.flow ≡ fl g → same_place x.item (item_in it g o) ≡ true → Avoids fl it (x ∷ xs) → ⊥
  meets x xs g o same on avoids =
      clash (passes_item (fl g) (item_in it g o) (x ∷ xs))
      (true_first (takes_item (fl g) (item_in it g o) x) (passes_item (fl g) (item_in it g o) xs) (true_both (nat_eq x.flow (fl g)) (same_place x.item (item_in it g o)) (eq-eqb x.flow (fl g) same) on))
      (avoids g o)

  no_turn : (x : Turn) (xs : List Turn) (g : ℕ) (o p : Option ℕ) (below : Bool) → x.item ≡ o → x.flow ≡ fl g → Avoids fl it (x ∷ xs) → turn_before flows (fl g) o (item_in it g p) below ≡ true → ⊥
  no_turn x xs g None None below is same avoids on = absurd (cc)
  no_turn x xs g None (Some u) below is same avoids on = meets x xs g None same (ap (λ (q : Option ℕ). same_place q None) is) avoids
  no_turn x xs g (Some v) None below is same avoids on = absurd (cc)
  no_turn x xs g (Some v) (Some u) below is same avoids on = elim (either_way (nat_eq v (item_at it g u))) [
    | inl here ↦ meets x xs g (Some u) same (ap (λ (q : Option ℕ). same_place q (Some (item_at it g u))) is ∙ here) avoids
    | inr there ↦
        let first : item_before flows (fl g) v (item_at it g u) ≡ true = ap (λ b. if b then below else item_before flows (fl g) v (item_at it g u)) (sym there) ∙ on in
        let found = back g v u first in
        meets x xs g (Some found.0) same (ap (λ (q : Option ℕ). same_place q (Some (item_at it g found.0))) is ∙ eq-eqb v (item_at it g found.0) (sym found.1)) avoids
  ]

  pub before_none : (v w : List Turn) → Avoids fl it v → path_before flows v (map (whole_turn fl it) w) ≡ false
  before_none [] w avoids = refl
  before_none (x ∷ xs) [] avoids = refl
  before_none (x ∷ xs) (y ∷ ys) avoids =
      never_true (path_before flows (x ∷ xs) (map (whole_turn fl it) (y ∷ ys))) (λ is.
      let below : Bool = path_before flows xs (map (whole_turn fl it) ys) in
      let same : x.flow ≡ fl y.flow = eqb-true x.flow (fl y.flow) (and_first (nat_eq x.flow (fl y.flow)) (turn_before flows x.flow x.item (item_in it y.flow y.item) below) is) in
      no_turn x xs y.flow x.item y.item below refl same avoids
      (ap (λ (g : ℕ). turn_before flows g x.item (item_in it y.flow y.item) below) (sym same) ∙ and_second (nat_eq x.flow (fl y.flow)) (turn_before flows x.flow x.item (item_in it y.flow y.item) below) is))

-- ---- what an atom visits in one flow

pub visits_kept : (at : ℕ → ℕ) (p q p' q' : ℕ → Bool) (standing standing' : List ℕ) → filter (is_image at) standing ≡ map at standing' → ((x : ℕ) → is_image at x ≡ false → p x ≡ false) → ((x : ℕ) → is_image at x ≡ false → q x ≡ true)
    → ((x : ℕ) → p (at x) ≡ p' x) → ((x : ℕ) → q (at x) ≡ q' x) → filter p (reverse (take_while q standing)) ≡ map at (filter p' (reverse (take_while q' standing')))
visits_kept at p q p' q' standing standing' is fails goes p_same q_same =
    filter_reverse p (take_while q standing)
    ∙ (ap reverse (take_kept p q (is_image at) fails goes standing
    ∙ (ap (λ (xs : List ℕ). filter p (take_while q xs)) is
    ∙ (ap (filter p) (take_map at q standing')
    ∙ (filter_map at p (take_while (λ x. q (at x)) standing')
    ∙ ap2 (λ (f h : ℕ → Bool). map at (filter f (take_while h standing'))) (fun_ext p_same) (fun_ext q_same)))))
    ∙ (sym (map_reverse at (filter p' (take_while q' standing')))
    ∙ ap (map at) (sym (filter_reverse p' (take_while q' standing')))))
