-- Where there is no room for a part there is none for the whole, and how long the forms are.
use Rattle.std.proofs.Common.{◌≡◌, ℕ, ◌+◌, ◌*◌, ◌<◌, ◌≤◌, List, [], ◌∷◌, ◌++◌, length, take, get_or, true, false, ap, ◌∙◌, sym, arith, length-append}
use Rattle.std.proofs.lemmas.List.Folds.{length-flat_map-take}
use Rattle.std.proofs.lemmas.Fmt.{length_signed_le}
use Rattle.std.proofs.lemmas.Grind.{common_steps}
use Rattle.std.specs.List.{flat_map, AllByRecursion}
use Rattle.tf_values.specs.declared.elements.Scalar.{Scalar}
use Rattle.tf_values.specs.declared.elements.Scalar.TheVariants as scalar
use Rattle.tf_values.specs.declared.value.Val.{Val}
use Rattle.tf_values.specs.declared.value.Val.TheVariants as value
use Rattle.tf_values.specs.Scalars.{scalar_bytes, IsElement}
use Rattle.tf_values.specs.Value.{quoted_byte, quoted, scalar_text, further_text, scalars_text, text_form, byte_form, IsValue}
use Rattle.tf_values.specs.Text.{is_text}
use Rattle.tf_values.proofs.ByteLemmas.{text_is_short}

-- no room for one of several, behind those before it
pub no_room : {X : Type 0} (form : X → List ℕ) (xs : List X) (i : ℕ) (x other : X) (old now : List ℕ) (before room : ℕ) → i < length xs → x ≡ get_or xs i other → now ≡ old ++ flat_map form (take i xs)
    → before ≤ room → room < length now + length (form x) → before < length old + length (flat_map form xs)
no_room form xs i x other old now before room within is appended grown full =
    let len : length now ≡ length old + length (flat_map form (take i xs)) = ap length appended ∙ length-append old (flat_map form (take i xs)) in
    let same : length (form (get_or xs i other)) ≡ length (form x) = ap (λ y. length (form y)) (sym is) in
    omega (arith, length-flat_map-take form xs i other within)

-- ---- the byte form

pub byte_form_is_short : (v : Val) → IsValue v → length (byte_form v) ≤ 131072
byte_form_is_short value.Nothing is = omega arith
byte_form_is_short (value.Truth false) is = omega arith
byte_form_is_short (value.Truth true) is = omega arith
byte_form_is_short (value.Int number) is = omega arith
byte_form_is_short (value.Text text) is = omega (arith, text_is_short text is)
byte_form_is_short (value.List scalars) is = grind (arith, common_steps, is.0)

-- ---- the text form

quoted_byte_is_short : (byte : ℕ) → length (quoted_byte byte) ≤ 6
quoted_byte_is_short byte = grind (arith, common_steps)

quoted_bytes_are_short : (text : List ℕ) → length (flat_map quoted_byte text) ≤ 6 * length text
quoted_bytes_are_short [] = omega arith
quoted_bytes_are_short (byte ∷ text) =
    let both : length (quoted_byte byte ++ flat_map quoted_byte text) ≡ length (quoted_byte byte) + length (flat_map quoted_byte text) = length-append (quoted_byte byte) (flat_map quoted_byte text) in
    omega (arith, both, quoted_byte_is_short byte, quoted_bytes_are_short text)

quoted_is_short : (text : List ℕ) → length (quoted text) ≤ 6 * length text + 2
quoted_is_short text = omega (arith, length-append (flat_map quoted_byte text) (34 ∷ []), quoted_bytes_are_short text)

-- a comma and a scalar's text are at most six times as long as its bytes
further_is_short : (s : Scalar) → IsElement s → length (further_text s) ≤ 6 * length (scalar_bytes s)
further_is_short scalar.Nothing is = omega arith
further_is_short (scalar.Truth false) is = omega arith
further_is_short (scalar.Truth true) is = omega arith
further_is_short (scalar.Int number) is = omega (arith, length_signed_le 19 number (omega (arith, is.sfits)) is.sfits)
further_is_short (scalar.Text text) is = omega (arith, quoted_is_short text)

further_are_short : (scalars : List Scalar) → AllByRecursion IsElement scalars → length (flat_map further_text scalars) ≤ 6 * length (flat_map scalar_bytes scalars)
further_are_short [] all = omega arith
further_are_short (s ∷ scalars) all =
    omega (arith, length-append (further_text s) (flat_map further_text scalars), length-append (scalar_bytes s) (flat_map scalar_bytes scalars), further_is_short s all.0, further_are_short scalars all.1)

scalars_are_short : (scalars : List Scalar) → AllByRecursion IsElement scalars → length (scalars_text scalars) ≤ 6 * length (flat_map scalar_bytes scalars)
scalars_are_short [] all = omega arith
scalars_are_short (s ∷ scalars) all =
    omega (arith, length-append (scalar_text s) (flat_map further_text scalars), length-append (scalar_bytes s) (flat_map scalar_bytes scalars), further_is_short s all.0, further_are_short scalars all.1)

-- a value's text form is at most six times as long as its byte form
text_form_is_short : (v : Val) → IsValue v → length (text_form v) ≤ 6 * length (byte_form v)
text_form_is_short value.Nothing is = omega arith
text_form_is_short (value.Truth false) is = omega arith
text_form_is_short (value.Truth true) is = omega arith
text_form_is_short (value.Int number) is = omega (arith, length_signed_le 19 number (omega (arith, is.sfits)) is.sfits)
text_form_is_short (value.Text text) is = omega (arith, quoted_is_short text)
text_form_is_short (value.List scalars) is = omega (arith, length-append (scalars_text scalars) (93 ∷ []), scalars_are_short scalars is.1)

pub text_form_is_within : (v : Val) → IsValue v → length (text_form v) ≤ 786432
text_form_is_within v is = omega (arith, text_form_is_short v is, byte_form_is_short v is)

pub quoted_is_within : (text : List ℕ) → is_text text ≡ true → length (quoted text) ≤ 393218
quoted_is_within text is = omega (arith, quoted_is_short text, text_is_short text is)
