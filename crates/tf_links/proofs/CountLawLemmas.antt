-- How many numbers below n pass a test.
use Rattle.std.proofs.Common.{◌≡◌, ℕ, zero, suc, ◌+◌, ◌<◌, ◌≤◌, List, [], ◌∷◌, length, Bool, true, false, not, ◌&&◌, refl, ap, ◌∙◌, inl, inr, arith, eq-eqb}
use Rattle.std.specs.Prelude.{nat_eq}
use Rattle.std.proofs.lemmas.Bool.{cases_lt}
use Rattle.tf_numbers.specs.Numbers.{has_number}
use Rattle.tf_numbers.proofs.TruthLemmas.{and_first, and_second, true_first, true_second, not_true}

abbrev pub one_if : Bool → ℕ
one_if true = 1
one_if false = 0

abbrev pub count_below : ℕ → (ℕ → Bool) → ℕ
count_below zero test = 0
count_below (suc n) test = count_below n test + one_if (test n)

at_most_one : (b : Bool) → one_if b ≤ 1
at_most_one true = omega arith
at_most_one false = omega arith

pub count_at_most : (n : ℕ) (test : ℕ → Bool) → count_below n test ≤ n
count_at_most zero test = omega arith
count_at_most (suc n) test = let before : count_below n test ≤ n = count_at_most n test in let here : one_if (test n) ≤ 1 = at_most_one (test n) in omega (arith, before, here)

one_within : (a b : Bool) → (a ≡ true → b ≡ true) → one_if a ≤ one_if b
one_within true b gives = let same : one_if b ≡ 1 = ap one_if (gives refl) in omega (arith, same)
one_within false b gives = omega arith

-- what fails one test and passes another counts for the other alone
one_less : (a b : Bool) → a ≡ false → b ≡ true → one_if a < one_if b
one_less a b fails passes = let none : one_if a ≡ 0 = ap one_if fails in let one : one_if b ≡ 1 = ap one_if passes in omega (arith, none, one)

pub count_within : (n : ℕ) (p q : ℕ → Bool) → ((k : ℕ) → k < n → p k ≡ true → q k ≡ true) → count_below n p ≤ count_below n q
count_within zero p q each = omega arith
count_within (suc n) p q each =
    let before : count_below n p ≤ count_below n q = count_within n p q (λ k below. each k (omega (arith, below))) in
    let here : one_if (p n) ≤ one_if (q n) = one_within (p n) (q n) (each n (omega arith)) in
    omega (arith, before, here)

-- one number more passes
pub count_less : (n : ℕ) (p q : ℕ → Bool) (x : ℕ) → ((k : ℕ) → k < n → p k ≡ true → q k ≡ true) → x < n → p x ≡ false → q x ≡ true → count_below n p < count_below n q
count_less zero p q x each below fails passes = absurd (omega arith)
count_less (suc n) p q x each below fails passes = elim (cases_lt x n) [
  | inl earlier ↦
      let before : count_below n p < count_below n q = count_less n p q x (λ k less. each k (omega (arith, less))) earlier fails passes in
      let here : one_if (p n) ≤ one_if (q n) = one_within (p n) (q n) (each n (omega arith)) in
      omega (arith, before, here)
  | inr from ↦
      let same : n ≡ x = omega (arith, from, below) in
      let before : count_below n p ≤ count_below n q = count_within n p q (λ k less. each k (omega (arith, less))) in
      let here : one_if (p n) < one_if (q n) = one_less (p n) (q n) (ap p same ∙ fails) (ap q same ∙ passes) in
      omega (arith, before, here)
]

-- none passes, so none is counted
pub count_none : (n : ℕ) (test : ℕ → Bool) → ((k : ℕ) → k < n → test k ≡ false) → count_below n test ≡ 0
count_none zero test each = refl
count_none (suc n) test each =
    let before : count_below n test ≡ 0 = count_none n test (λ k below. each k (omega (arith, below))) in
    let here : one_if (test n) ≡ 0 = ap one_if (each n (omega arith)) in
    omega (arith, before, here)

-- one passes, so some are counted
pub count_some : (n : ℕ) (test : ℕ → Bool) (x : ℕ) → x < n → test x ≡ true → 0 < count_below n test
count_some n test x below passes =
    let more : count_below n (λ k. false) < count_below n test = count_less n (λ k. false) test x (λ k less no. absurd (cc)) below refl passes in
    omega (arith, more)

-- ---- lists that have each number once

abbrev pub apart : List ℕ → Bool
apart [] = true
apart (x ∷ xs) = not (has_number xs x) && apart xs

-- there are at most as many as numbers below n
length_counted : (n : ℕ) (xs : List ℕ) → apart xs ≡ true → ((k : ℕ) → has_number xs k ≡ true → k < n) → length xs ≤ count_below n (has_number xs)
length_counted n [] once below = omega arith
length_counted n (x ∷ xs) once below =
    let before : length xs ≤ count_below n (has_number xs) = length_counted n xs (and_second (not (has_number xs x)) (apart xs) once) (λ k on. below k (true_second (nat_eq k x) (has_number xs k) on)) in
    let more : count_below n (has_number xs) < count_below n (has_number (x ∷ xs)) =
    count_less n (has_number xs) (has_number (x ∷ xs)) x (λ k less on. true_second (nat_eq k x) (has_number xs k) on) (below x (true_first (nat_eq x x) (has_number xs x) (eq-eqb x x refl)))
    (not_true (has_number xs x) (and_first (not (has_number xs x)) (apart xs) once)) (true_first (nat_eq x x) (has_number xs x) (eq-eqb x x refl)) in
    omega (arith, before, more)

pub length_apart : (n : ℕ) (xs : List ℕ) → apart xs ≡ true → ((k : ℕ) → has_number xs k ≡ true → k < n) → length xs ≤ n
length_apart n xs once below =
    let counted : length xs ≤ count_below n (has_number xs) = length_counted n xs once below in
    let most : count_below n (has_number xs) ≤ n = count_at_most n (has_number xs) in
    omega (arith, counted, most)
