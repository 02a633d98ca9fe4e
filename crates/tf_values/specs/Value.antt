-- What values are, and their text form.
use Rattle.std.specs.Prelude.{ℕ, List, [], ◌∷◌, ◌++◌, Bool, true, false, ◌||◌, ◌+◌, ◌/◌, ◌%◌, ◌==◌, nat_lt, if◌then◌else◌, codes, ◌≡◌, length, take, FitsSigned}
use Rattle.std.specs.Fmt.{signed_decimal}
use Rattle.std.specs.List.{flat_map, AllByRecursion}
use Rattle.tf_values.specs.declared.elements.Scalar.{Scalar}
use Rattle.tf_values.specs.declared.elements.Scalar.TheVariants as scalar
use Rattle.tf_values.specs.declared.value.Val.{Val}
use Rattle.tf_values.specs.declared.value.Val.TheVariants as value
use Rattle.std.specs.Int.{w64}
use Rattle.tf_values.specs.Text.{is_text}
use Rattle.tf_values.specs.Scalars.{IsElement, are_scalars, scalar_bytes, list_bytes}

-- ---- the text form of a value

-- a lower-case hexadecimal digit, of a number below 16
abbrev pub hexadecimal : ℕ → ℕ
hexadecimal digit = if nat_lt digit 10 then 48 + digit else 87 + digit

-- a byte within quotes: a quote, a backslash, a line feed and a tab have short forms, the other bytes
-- below 32 and the byte 127 are a backslash, u00 and two digits, and each other byte stands for itself
abbrev pub quoted_byte : ℕ → List ℕ
quoted_byte byte =
    if byte == 34 then 92 ∷ 34 ∷ []
    else if byte == 92 then 92 ∷ 92 ∷ []
    else if byte == 10 then 92 ∷ 110 ∷ []
    else if byte == 9 then 92 ∷ 116 ∷ []
    else if nat_lt byte 32 || byte == 127 then 92 ∷ 117 ∷ 48 ∷ 48 ∷ hexadecimal (byte / 16) ∷ hexadecimal (byte % 16)
    ∷ []
    else byte ∷ []

-- a text in double quotes
abbrev pub quoted : List ℕ → List ℕ
quoted text = 34 ∷ flat_map quoted_byte text ++ 34 ∷ []

-- the words for truth
abbrev pub truth_text : Bool → List ℕ
truth_text true = codes "true"
truth_text false = codes "false"

-- the text form of a scalar
abbrev pub scalar_text : Scalar → List ℕ
scalar_text scalar.Nothing = codes "null"
scalar_text (scalar.Truth truth) = truth_text truth
scalar_text (scalar.Int number) = signed_decimal number
scalar_text (scalar.Text text) = quoted text

-- a scalar that others stand before in a list
abbrev pub further_text : Scalar → List ℕ
further_text element = 44 ∷ scalar_text element

-- the scalars of a list with commas between
abbrev pub scalars_text : List Scalar → List ℕ
scalars_text [] = []
scalars_text (first ∷ others) = scalar_text first ++ flat_map further_text others

-- the text form of a value
abbrev pub text_form : Val → List ℕ
text_form value.Nothing = codes "null"
text_form (value.Truth truth) = truth_text truth
text_form (value.Int number) = signed_decimal number
text_form (value.Text text) = quoted text
text_form (value.List scalars) = 91 ∷ scalars_text scalars ++ 93 ∷ []

-- ---- what a value is, its byte form, and what it means that bytes spell one

-- the value that is this scalar
abbrev pub value_of : Scalar → Val
value_of scalar.Nothing = value.Nothing
value_of (scalar.Truth truth) = value.Truth truth
value_of (scalar.Int number) = value.Int number
value_of (scalar.Text text) = value.Text text

-- a value within the limits: a scalar within them, or a list of such scalars that is neither too long nor too large
abbrev pub IsValue : Val → Type 0
IsValue value.Nothing = Unit {0}
IsValue (value.Truth truth) = Unit {0}
IsValue (value.Int number) = FitsSigned w64 number
IsValue (value.Text text) = is_text text ≡ true
IsValue (value.List scalars) = (are_scalars scalars ≡ true) × AllByRecursion IsElement scalars

-- the byte form of a value: a list has its own, and each other value that of the scalar
abbrev pub byte_form : Val → List ℕ
byte_form value.Nothing = scalar_bytes scalar.Nothing
byte_form (value.Truth truth) = scalar_bytes (scalar.Truth truth)
byte_form (value.Int number) = scalar_bytes (scalar.Int number)
byte_form (value.Text text) = scalar_bytes (scalar.Text text)
byte_form (value.List scalars) = list_bytes scalars

-- the bytes are the text form of a value
pub record IsTextOf (bytes : List ℕ) (v : Val) : Type 0 where
  pub value : IsValue v
  pub form : bytes ≡ text_form v

-- the first bytes, so many of them, are the byte form of a value
pub record BeginsWith (bytes : List ℕ) (v : Val) (len : ℕ) : Type 0 where
  pub value : IsValue v
  pub len_is : len ≡ length (byte_form v)
  pub form : take len bytes ≡ byte_form v
