-- Entries that each carry a number: whose they are, and what may come after them.
use Rattle.std.specs.Prelude.{◌≡◌, ◌≢◌, ℕ, ◌<◌, List, ◌++◌, ◌==◌, filter}
use Rattle.std.specs.List.{All}

module _ {E : Type 0} where
  -- each of these entries carries this number
  abbrev pub AllBy : ℕ → List (ℕ × E) → Type 0
  AllBy number entries = All (λ e. e.0 ≡ number) entries

  -- none of these entries carries this number
  abbrev pub NoneBy : ℕ → List (ℕ × E) → Type 0
  NoneBy number entries = All (λ e. e.0 ≢ number) entries

  -- each of these entries carries a number below this one
  abbrev pub AreNumberedBelow : ℕ → List (ℕ × E) → Type 0
  AreNumberedBelow bound entries = All (λ e. e.0 < bound) entries

  -- the entries that carry this number, in their order
  abbrev pub own : ℕ → List (ℕ × E) → List (ℕ × E)
  own number entries = filter (λ e. e.0 == number) entries

  -- what was seen, with entries of others after it
  pub record IsLater (number : ℕ) (seen now : List (ℕ × E)) : Type 0 where
    pub since : List (ℕ × E)
    pub begins : now ≡ seen ++ since
    pub others : NoneBy number since

  -- what was seen, with entries of this number after it
  pub record IsLonger (number : ℕ) (seen now : List (ℕ × E)) : Type 0 where
    pub mine : List (ℕ × E)
    pub begins : now ≡ seen ++ mine
    pub own : AllBy number mine
