-- What scalars and lists of scalars are, and the byte form of values.
use Rattle.std.specs.Prelude.{◌≡◌, true, FitsSigned, ℕ, List, [], ◌∷◌, ◌++◌, false, length, Bool, ◌&&◌, nat_le}
use Rattle.std.specs.Int.{w64, to_be_bytes, cast_unsigned, w16, w32}
use Rattle.tf_values.specs.declared.elements.Scalar.{Scalar}
use Rattle.tf_values.specs.declared.elements.Scalar.TheVariants as scalar
use Rattle.tf_values.specs.Text.{is_text}
use Rattle.std.specs.List.{flat_map}

-- ---- what a scalar is

-- a scalar within the limits: its integer has 64 bits, its text is a text
abbrev pub IsElement : Scalar → Type 0
IsElement scalar.Nothing = Unit {0}
IsElement (scalar.Truth truth) = Unit {0}
IsElement (scalar.Int number) = FitsSigned w64 number
IsElement (scalar.Text text) = is_text text ≡ true

-- ---- the byte form of a value
-- Numbers are big-endian.

-- a text inside another form: its length in four bytes, and the bytes
abbrev pub text_bytes : List ℕ → List ℕ
text_bytes text = to_be_bytes w32 (length text) ++ text

-- the byte form of a scalar: a tag, and what it holds
abbrev pub scalar_bytes : Scalar → List ℕ
scalar_bytes scalar.Nothing = 0 ∷ []
scalar_bytes (scalar.Truth false) = 1 ∷ []
scalar_bytes (scalar.Truth true) = 2 ∷ []
scalar_bytes (scalar.Int number) = 3 ∷ to_be_bytes w64 (cast_unsigned w64 number)
scalar_bytes (scalar.Text text) = 4 ∷ text_bytes text

-- the byte form of a list: its tag, the number of its scalars in two bytes, and their forms
abbrev pub list_bytes : List Scalar → List ℕ
list_bytes scalars = 5 ∷ to_be_bytes w16 (length scalars) ++ flat_map scalar_bytes scalars

-- ---- what a list of scalars may hold

-- at most 1,024 scalars, whose byte form as a list has at most 131,072 bytes
abbrev pub are_scalars : List Scalar → Bool
are_scalars scalars = nat_le (length scalars) 1024 && nat_le (length (list_bytes scalars)) 131072
