-- Tests of the numbers below a count, and of pairs of such numbers; and when a count of 64 bits rose.
use Rattle.std.specs.Prelude.{ℕ, zero, suc, ◌+◌, ◌-◌, ◌^◌, min, ◌≤◌, List, [], ◌∷◌, ◌++◌, Bool, true, false, ◌&&◌, ◌||◌, Option, Some, None, if◌then◌else◌, nat_eq, map, flat_map}
use Rattle.std.specs.List.{list_any}
use Rattle.std.specs.Option.{option_or}

-- ---- tests of the numbers below a count

-- the test passes at each number below n
abbrev pub all_below : ℕ → (ℕ → Bool) → Bool
all_below zero test = true
all_below (suc n) test = all_below n test && test n

-- it passes at a number below n
abbrev pub any_below : ℕ → (ℕ → Bool) → Bool
any_below zero test = false
any_below (suc n) test = any_below n test || test n

-- the least number below n at which it passes
abbrev pub first_below : ℕ → (ℕ → Bool) → Option ℕ
first_below zero test = None
first_below (suc n) test = option_or (first_below n test) (if test n then Some n else None)

-- the numbers below n at which it passes, in order
abbrev pub which_below : ℕ → (ℕ → Bool) → List ℕ
which_below zero test = []
which_below (suc n) test = which_below n test ++ (if test n then n ∷ [] else [])

-- the numbers below n, in order
abbrev pub numbers_below : ℕ → List ℕ
numbers_below zero = []
numbers_below (suc n) = numbers_below n ++ n ∷ []

-- the number stands in the list
abbrev pub has_number : List ℕ → ℕ → Bool
has_number numbers n = list_any (nat_eq n) numbers

-- the number is this one
abbrev pub is_number : Option ℕ → ℕ → Bool
is_number None n = false
is_number (Some m) n = nat_eq m n

-- ---- pairs of numbers

-- two numbers, of which the first leads to the second
pub record Pair : Type 0 where
  pub first : ℕ
  pub second : ℕ

-- the pair of two numbers
abbrev pub pair : ℕ → ℕ → Pair
pair u v = record { first = u; second = v }

-- the pair is u and v
abbrev pub is_pair : ℕ → ℕ → Pair → Bool
is_pair u v p = nat_eq p.first u && nat_eq p.second v

-- the pair stands among the pairs
abbrev pub has_pair : List Pair → ℕ → ℕ → Bool
has_pair pairs u v = list_any (is_pair u v) pairs

-- the pairs from u to the numbers below n at which the test passes
abbrev pub pairs_from : ℕ → (ℕ → ℕ → Bool) → ℕ → List Pair
pairs_from n test u = map (pair u) (which_below n (test u))

-- the pairs of numbers below n at which a test of two numbers passes, in order
abbrev pub pairs_below : ℕ → (ℕ → ℕ → Bool) → List Pair
pairs_below n test = flat_map (pairs_from n test) (numbers_below n)

-- ---- counts of 64 bits

-- the count rose, or stands at its greatest value
abbrev pub Rises : ℕ → ℕ → Type 0
Rises before after = min (before + 1) (2 ^ 64 - 1) ≤ after
