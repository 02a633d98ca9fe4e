-- Numbers side by side, and counters that are changed or looked at so.
use Rattle.std.specs.Prelude.{◌≡◌, ◌≢◌, ℕ, ◌+◌, ◌<◌, ◌≤◌, ◌⊎◌, List, Bool, length, get_or, slice_get, option_map}
use Rattle.tf_machine.specs.Counts.{stepped}

-- ascending: a later number is at least as much greater than an earlier one as it stands behind it
abbrev pub AreApart : List ℕ → Type 0
AreApart numbers = (k n d e : ℕ) → k + n < length numbers → get_or numbers k d + n ≤ get_or numbers (k + n) e

-- from a place on and before another the numbers stand side by side
abbrev pub AreBeside : List ℕ → ℕ → ℕ → Type 0
AreBeside numbers start end = (n d e : ℕ) → start + n < end → get_or numbers (start + n) d ≡ get_or numbers start e + n

-- from a place on and before another no zero stands
abbrev pub IsZeroless : List ℕ → ℕ → ℕ → Type 0
IsZeroless counts from past = (a d : ℕ) → from ≤ a → a < past → get_or counts a d ≢ 0

-- the numbers from a place on and before another are one more, or one less, and the others stay
pub record AreSteppedFrom (more : Bool) (first past : ℕ) (old new : List ℕ) : Type 0 where
  pub as_many : length new ≡ length old
  pub inside : (a : ℕ) → first ≤ a → a < past → slice_get new a ≡ option_map (stepped more) (slice_get old a)
  pub outside : (a : ℕ) → (a < first) ⊎ (past ≤ a) → slice_get new a ≡ slice_get old a
