-- Sums of a number of each atom.
use Rattle.std.proofs.Common.{◌≡◌, ◌≢◌, ℕ, zero, suc, ◌+◌, ◌<◌, ◌≤◌, Bool, true, false, refl, sym, ◌∙◌, inl, inr, subst, arith}
use Rattle.std.specs.Prelude.{if◌then◌else◌}
use Rattle.tf_numbers.proofs.NumberLemmas.{same_or_other}
use Rattle.tf_bound.specs.Costs.{sum_below, where_passes}

-- a sum of numbers that are at most others is at most the sum of these
pub sum_at_most : (n : ℕ) (f g : ℕ → ℕ) → ((a : ℕ) → a < n → f a ≤ g a) → sum_below n f ≤ sum_below n g
sum_at_most zero f g each = omega arith
sum_at_most (suc n) f g each =
    let before : sum_below n f ≤ sum_below n g = sum_at_most n f g (λ a below. each a (omega (arith, below))) in
    let here : f n ≤ g n = each n (omega arith) in
    omega (arith, before, here)

-- where one number is less by d and no other is more, the sum is less by d
pub sum_falls : (n : ℕ) (f g : ℕ → ℕ) (r d : ℕ) → r < n → ((a : ℕ) → a < n → a ≢ r → f a ≤ g a) → f r + d ≤ g r → sum_below n f + d ≤ sum_below n g
sum_falls zero f g r d below each falls = absurd (omega (arith, below))
sum_falls (suc n) f g r d below each falls = elim (same_or_other n r) [
  | inl same ↦
      let before : sum_below n f ≤ sum_below n g = sum_at_most n f g (λ a less. each a (omega (arith, less)) (λ is. let no : a ≡ n = is ∙ sym same in omega (arith, no, less))) in
      let here : f n + d ≤ g n = subst (λ (k : ℕ). f k + d ≤ g k) (sym same) falls in
      omega (arith, before, here)
  | inr other ↦
      let less : r < n = omega (arith, below, other) in
      let before : sum_below n f + d ≤ sum_below n g = sum_falls n f g r d less (λ a low. each a (omega (arith, low))) falls in
      let here : f n ≤ g n = each n (omega arith) other in
      omega (arith, before, here)
]

-- a number where the test fails, and 0 elsewhere
abbrev pub where_fails : Bool → ℕ → ℕ
where_fails test number = if test then 0 else number

split_one : (b : Bool) (x : ℕ) → x ≡ where_passes b x + where_fails b x
split_one true x = omega arith
split_one false x = omega arith

-- a sum is one of the numbers where a test passes, and one of those where it fails
pub sum_splits : (n : ℕ) (test : ℕ → Bool) (f : ℕ → ℕ)
    → sum_below n f ≡ sum_below n (λ a. where_passes (test a) (f a)) + sum_below n (λ a. where_fails (test a) (f a))
sum_splits zero test f = refl
sum_splits (suc n) test f =
    let before : sum_below n f ≡ sum_below n (λ a. where_passes (test a) (f a)) + sum_below n (λ a. where_fails (test a) (f a)) = sum_splits n test f in
    let here : f n ≡ where_passes (test n) (f n) + where_fails (test n) (f n) = split_one (test n) (f n) in
    omega (arith, before, here)

-- a sum from its first number on
pub sum_from_first : (n : ℕ) (f : ℕ → ℕ) → sum_below (suc n) f ≡ f 0 + sum_below n (λ a. f (suc a))
sum_from_first zero f = omega arith
sum_from_first (suc n) f = let before : sum_below (suc n) f ≡ f 0 + sum_below n (λ a. f (suc a)) = sum_from_first n f in omega (arith, before)
