-- The smallest value for a turnstile, as contracts see it.
use Rattle.std.specs.Prelude.{ℕ, Bool, List}

-- its name, the amounts with the number of who added each, and whether it is stopped
pub record TallyValue : Type 0 where
  pub name : ℕ
  pub amounts : List (ℕ × ℕ)
  pub stopped : Bool
