-- Sets of numbers as bits of words.
use Rattle.std.specs.Prelude.{◌≡◌, ◌<◌, ◌≤◌, ℕ, ◌+◌, ◌*◌, ◌/◌, ◌%◌, List, Bool, not, ◌&&◌, ◌||◌, length, nat_eq, slice_index_or}
use Rattle.std.specs.Int.{bit_at}
use Rattle.tf_numbers.specs.Numbers.{all_below}

-- the number's bit is set; the first word has the numbers below 64
unfoldable pub has : List ℕ → ℕ → Bool
has words k = nat_eq (bit_at (slice_index_or words (k / 64) 0) (k % 64)) 1

-- for how many numbers there is a bit
abbrev pub room : List ℕ → ℕ
room words = 64 * length words

-- both sets have the number
abbrev pub has_both : List ℕ → List ℕ → ℕ → Bool
has_both xs ys k = has xs k && has ys k

-- the second set has the number, if the first has
abbrev pub has_if : List ℕ → List ℕ → ℕ → Bool
has_if xs ys k = not (has xs k) || has ys k

-- the second set has all numbers of the first
abbrev pub is_within : List ℕ → List ℕ → Bool
is_within xs ys = all_below (room xs) (has_if xs ys)

-- how many words the numbers below a count take
abbrev pub words_for : ℕ → ℕ
words_for count = count / 64 + 1

-- the numbers from one on up to before another are in the set, or aren't
abbrev pub AreAlike : List ℕ → Bool → ℕ → ℕ → Type 0
AreAlike words on from end = (k : ℕ) → from ≤ k → k < end → has words k ≡ on

-- the bits of a word from one on up to before another are not set
abbrev pub AreUnset : ℕ → ℕ → ℕ → Type 0
AreUnset word from end = (k : ℕ) → from ≤ k → k < end → bit_at word k ≡ 0

-- the first bit of a word that is set, from one on
pub record IsFirstBit (word from place : ℕ) : Type 0 where
  pub begins : from ≤ place
  pub ends : place < 64
  pub set : bit_at word place ≡ 1
  pub first : AreUnset word from place
