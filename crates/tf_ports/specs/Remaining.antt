-- What is read of a stream whose bytes are known.
use Rattle.std.specs.Prelude.{◌≡◌, ℕ, ◌<◌, List, [], ◌++◌, length, Option, Some, None}

-- these bytes are all that was left
abbrev pub IsAllLeft : Option (List ℕ) → List ℕ → Type 0
IsAllLeft None bytes = Unit {0}
IsAllLeft (Some left) bytes = bytes ≡ left

-- more bytes than the limit were left
abbrev pub HasMoreLeft : Option (List ℕ) → ℕ → Type 0
HasMoreLeft None limit = Unit {0}
HasMoreLeft (Some left) limit = limit < length left

-- these bytes are the first of those that were left: all, where they are fewer than the limit
abbrev pub IsFirstLeft : Option (List ℕ) → ℕ → List ℕ → Type 0
IsFirstLeft None limit bytes = Unit {0}
IsFirstLeft (Some left) limit bytes = (rest : List ℕ) × ((left ≡ bytes ++ rest) × (length bytes < limit → rest ≡ []))
