-- What one append after another leaves.
use Rattle.std.proofs.Common.{◌≡◌, List, [], ◌∷◌, ◌++◌, length, take, refl}
use Rattle.tf_values.specs.Growth.{KeepsPrefix}

-- what keeps a longer prefix keeps the shorter one
pub keeps_shorter : {X : Type 0} (old more new : List X) → KeepsPrefix (old ++ more) new → KeepsPrefix old new
keeps_shorter [] more new kept = refl
keeps_shorter (x ∷ old) more [] kept = cc
keeps_shorter (x ∷ old) more (y ∷ new) kept = let heads : y ≡ x = cc in let tails : take (length (old ++ more)) new ≡ old ++ more = cc in rw (heads, keeps_shorter old more new tails)
