-- Lists of numbers and of pairs that pass a test.
use Rattle.std.proofs.Common.{◌≡◌, ℕ, zero, suc, ◌<◌, List, [], ◌∷◌, ◌++◌, map, flat_map, Bool, true, false, ◌&&◌, ◌||◌, refl, sym, ap, ◌∙◌, ◌⊎◌, inl, inr, eqb-true, eq-eqb, arith}
use Rattle.std.specs.Prelude.{if◌then◌else◌, nat_eq}
use Rattle.std.specs.List.{list_any}
use Rattle.std.proofs.lemmas.Bool.{cases_lt}
use Rattle.tf_numbers.specs.Numbers.{which_below, numbers_below, pair, is_pair, has_pair, pairs_from, pairs_below}
use Rattle.tf_numbers.proofs.TruthLemmas.{and_first, and_second, or_either, true_first, true_second, true_both, only_first, or_chain}

-- ---- one of a list passes

pub any_in_both : {X : Type 0} (p : X → Bool) (xs ys : List X) → list_any p (xs ++ ys) ≡ true → (list_any p xs ≡ true) ⊎ (list_any p ys ≡ true)
any_in_both p [] ys is = inr is
any_in_both p (x ∷ xs) ys is = elim (or_either (p x) _ is) [
  | inl here ↦ inl (true_first (p x) _ here)
  | inr there ↦ elim (any_in_both p xs ys there) [ inl a ↦ inl (true_second (p x) _ a) | inr b ↦ inr b ]
]

pub any_left : {X : Type 0} (p : X → Bool) (xs ys : List X) → list_any p xs ≡ true → list_any p (xs ++ ys) ≡ true
any_left p [] ys is = absurd (cc)
any_left p (x ∷ xs) ys is = elim (or_either (p x) _ is) [ inl here ↦ true_first (p x) _ here | inr there ↦ true_second (p x) _ (any_left p xs ys there) ]

pub any_right : {X : Type 0} (p : X → Bool) (xs ys : List X) → list_any p ys ≡ true → list_any p (xs ++ ys) ≡ true
any_right p [] ys is = is
any_right p (x ∷ xs) ys is = true_second (p x) _ (any_right p xs ys is)

-- a number below n that passes both tests
pub record PassesBelow (n : ℕ) (test p : ℕ → Bool) : Type 0 where
  pub number : ℕ
  pub below : number < n
  pub tested : test number ≡ true
  pub passes : p number ≡ true

last_passes : (n : ℕ) (test p : ℕ → Bool) (b : Bool) → test n ≡ b → list_any p (if b then n ∷ [] else []) ≡ true → PassesBelow (suc n) test p
last_passes n test p true was is = record { number = n; below = omega arith; tested = was; passes = only_first (p n) is }
last_passes n test p false was is = absurd (cc)

pub which_passes : (n : ℕ) (test p : ℕ → Bool) → list_any p (which_below n test) ≡ true → PassesBelow n test p
which_passes zero test p is = absurd (cc)
which_passes (suc n) test p is = elim (any_in_both p (which_below n test) _ is) [
  | inl before ↦ let found = which_passes n test p before in record { number = found.number; below = omega (arith, found.below); tested = found.tested; passes = found.passes }
  | inr last ↦ last_passes n test p (test n) refl last
]

here_passes : (n : ℕ) (p : ℕ → Bool) (b : Bool) → b ≡ true → p n ≡ true → list_any p (if b then n ∷ [] else []) ≡ true
here_passes n p true was is = true_first (p n) false is
here_passes n p false was is = absurd (cc)

pub passes_which : (n : ℕ) (test p : ℕ → Bool) (k : ℕ) → k < n → test k ≡ true → p k ≡ true → list_any p (which_below n test) ≡ true
passes_which zero test p k below was is = absurd (omega arith)
passes_which (suc n) test p k below was is = elim (cases_lt k n) [
  | inl before ↦ any_left p (which_below n test) _ (passes_which n test p k before was is)
  | inr from ↦ let same : k ≡ n = omega arith in
      any_right p (which_below n test) _ (here_passes n p (test n) (ap test (sym same) ∙ was) (ap p (sym same) ∙ is))
]

-- ---- pairs

from_pairs : (u v a : ℕ) (ys : List ℕ) → list_any (is_pair u v) (map (pair a) ys) ≡ true → (nat_eq a u ≡ true) × (list_any (λ y. nat_eq y v) ys ≡ true)
from_pairs u v a [] is = absurd (cc)
from_pairs u v a (y ∷ ys) is = elim (or_either (nat_eq a u && nat_eq y v) _ is) [
  | inl here ↦ (and_first (nat_eq a u) (nat_eq y v) here, true_first (nat_eq y v) _ (and_second (nat_eq a u) (nat_eq y v) here))
  | inr there ↦ ((from_pairs u v a ys there).0, true_second (nat_eq y v) _ (from_pairs u v a ys there).1)
]

to_pairs : (u v a : ℕ) (ys : List ℕ) → nat_eq a u ≡ true → list_any (λ y. nat_eq y v) ys ≡ true → list_any (is_pair u v) (map (pair a) ys) ≡ true
to_pairs u v a [] first is = absurd (cc)
to_pairs u v a (y ∷ ys) first is = elim (or_either (nat_eq y v) _ is) [
  | inl here ↦ true_first (nat_eq a u && nat_eq y v) _ (true_both (nat_eq a u) (nat_eq y v) first here)
  | inr there ↦ true_second (nat_eq a u && nat_eq y v) _ (to_pairs u v a ys first there)
]

-- what it means that a pair stands among the pairs that pass a test
pub record Passes (n : ℕ) (test : ℕ → ℕ → Bool) (u v : ℕ) : Type 0 where
  pub first : u < n
  pub second : v < n
  pub tested : test u v ≡ true

in_row : (n : ℕ) (test : ℕ → ℕ → Bool) (a u v : ℕ) → a < n → list_any (is_pair u v) (pairs_from n test a) ≡ true → Passes n test u v
in_row n test a u v below is =
    let parts = from_pairs u v a (which_below n (test a)) is in
    let found = which_passes n (test a) (λ y. nat_eq y v) parts.1 in
    let same : a ≡ u = eqb-true a u parts.0 in
    let ends : found.number ≡ v = eqb-true found.number v found.passes in
    record { first = omega (arith, same, below); second = omega (arith, ends, found.below); tested = ap (λ (k : ℕ). test k v) (sym same) ∙ (ap (λ (k : ℕ). test a k) (sym ends) ∙ found.tested) }

-- one of a list of lists passes, where one of the elements has such a list
any_append : {X : Type 0} (p : X → Bool) (xs ys : List X) → list_any p (xs ++ ys) ≡ list_any p xs || list_any p ys
any_append p [] ys = refl
any_append p (x ∷ xs) ys = ap (λ (b : Bool). p x || b) (any_append p xs ys) ∙ or_chain (p x) (list_any p xs) (list_any p ys)

pub any_flat : {X Y : Type 0} (p : Y → Bool) (f : X → List Y) (xs : List X) → list_any p (flat_map f xs) ≡ list_any (λ x. list_any p (f x)) xs
any_flat p f [] = refl
any_flat p f (x ∷ xs) = any_append p (f x) (flat_map f xs) ∙ ap (λ (b : Bool). list_any p (f x) || b) (any_flat p f xs)

-- a number below n that passes
numbers_passes : (n : ℕ) (p : ℕ → Bool) → list_any p (numbers_below n) ≡ true → PassesBelow n p p
numbers_passes zero p is = absurd (cc)
numbers_passes (suc n) p is = elim (any_in_both p (numbers_below n) (n ∷ []) is) [
  | inl before ↦ let found = numbers_passes n p before in record { number = found.number; below = omega (arith, found.below); tested = found.tested; passes = found.passes }
  | inr last ↦ let this : p n ≡ true = only_first (p n) last in record { number = n; below = omega arith; tested = this; passes = this }
]

passes_numbers : (n : ℕ) (p : ℕ → Bool) (k : ℕ) → k < n → p k ≡ true → list_any p (numbers_below n) ≡ true
passes_numbers zero p k below is = absurd (omega arith)
passes_numbers (suc n) p k below is = elim (cases_lt k n) [
  | inl before ↦ any_left p (numbers_below n) (n ∷ []) (passes_numbers n p k before is)
  | inr from ↦ let same : k ≡ n = omega arith in any_right p (numbers_below n) (n ∷ []) (true_first (p n) false (ap p (sym same) ∙ is))
]

pub pair_passes : (n : ℕ) (test : ℕ → ℕ → Bool) (u v : ℕ) → has_pair (pairs_below n test) u v ≡ true → Passes n test u v
pair_passes n test u v is =
    let found = numbers_passes n (λ a. list_any (is_pair u v) (pairs_from n test a)) (sym (any_flat (is_pair u v) (pairs_from n test) (numbers_below n)) ∙ is) in
    in_row n test found.number u v found.below found.passes

pub passes_pair : (n : ℕ) (test : ℕ → ℕ → Bool) (u v : ℕ) → u < n → v < n → test u v ≡ true → has_pair (pairs_below n test) u v ≡ true
passes_pair n test u v first second is =
    any_flat (is_pair u v) (pairs_from n test) (numbers_below n)
    ∙ passes_numbers n (λ a. list_any (is_pair u v) (pairs_from n test a)) u first
    (to_pairs u v u (which_below n (test u)) (eq-eqb u u refl) (passes_which n (test u) (λ y. nat_eq y v) v second is (eq-eqb v v refl)))
