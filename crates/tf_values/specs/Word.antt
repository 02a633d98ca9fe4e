-- Where a scalar's text form ends, and which words are no scalar's.
use Rattle.std.specs.Prelude.{◌≢◌, ℕ, ℤ, List, [], ◌∷◌, Bool, true, ◌||◌, ◌==◌, not, codes, FitsSigned}
use Rattle.std.specs.Int.{w64}
use Rattle.std.specs.Fmt.{signed_decimal}
use Rattle.std.specs.List.{list_all}
use Rattle.tf_values.specs.Value.{truth_text}

-- a comma or a closing bracket
abbrev pub is_mark : ℕ → Bool
is_mark byte = (byte == 44) || (byte == 93)

-- nothing, a comma or a closing bracket comes next
abbrev pub ends_here : List ℕ → Bool
ends_here [] = true
ends_here (next ∷ others) = is_mark next

-- bytes with no comma and no closing bracket
abbrev pub is_word : List ℕ → Bool
is_word bytes = list_all (λ byte. not (is_mark byte)) bytes

-- the text form of no scalar but perhaps of a text
pub record IsNoScalar (word : List ℕ) : Type 0 where
  pub nothing : word ≢ codes "null"
  pub truth : (b : Bool) → word ≢ truth_text b
  pub number : (z : ℤ) → FitsSigned w64 z → word ≢ signed_decimal z
