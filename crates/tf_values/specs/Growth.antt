-- What an append that was cut short leaves.
use Rattle.std.specs.Prelude.{◌≡◌, List, length, take}

-- the old list still stands at the front of the new one
abbrev pub KeepsPrefix : {X : Type 0} → List X → List X → Type 0
KeepsPrefix old new = take (length old) new ≡ old
