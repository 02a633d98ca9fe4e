-- Names in byte order, each above the one before it.
use Rattle.std.specs.Prelude.{ℕ, List, [], ◌∷◌, Bool, true, false, ◌&&◌}
use Rattle.std.specs.Cmp.Lexicographic.{slice_cmp}
use Rattle.std.specs.Ordering.{nat_cmp}
use Rattle.std.specs.declared.cmp.Ordering.{Ordering}
use Rattle.std.specs.declared.cmp.Ordering.TheVariants.{Less, Equal, Greater}

-- it comes before
abbrev pub is_less : Ordering → Bool
is_less Less = true
is_less Equal = false
is_less Greater = false

abbrev pub comes_before : List ℕ → List ℕ → Bool
comes_before a b = is_less (slice_cmp nat_cmp a b)

-- each name comes behind the one before it, the first behind this one
abbrev pub ascend_from : List ℕ → List (List ℕ) → Bool
ascend_from last [] = true
ascend_from last (name ∷ names) = comes_before last name && ascend_from name names

abbrev pub ascend : List (List ℕ) → Bool
ascend [] = true
ascend (name ∷ names) = ascend_from name names
