-- Counts that rise.
use Rattle.std.proofs.Common.{ℕ, ◌≤◌, arith}
use Rattle.tf_numbers.specs.Numbers.{Rises}

-- a count that didn't fall, and then rose
pub rises_later : (a b c : ℕ) → a ≤ b → Rises b c → Rises a c
rises_later a b c le rose = omega (arith, le, rose)
