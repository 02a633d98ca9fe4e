-- Rows of numbers.
use Rattle.std.specs.Prelude.{ℕ, List, [], Option, Some, None, slice_get}

-- the row, where there is one
abbrev pub row_in : Option (List ℕ) → List ℕ
row_in None = []
row_in (Some row) = row

-- the row of a number; a number that has none, has none in it
abbrev pub row_at : List (List ℕ) → ℕ → List ℕ
row_at rows n = row_in (slice_get rows n)
