-- The text form of a value spells it, and which values have one.
use Rattle.std.proofs.Common.{◌≡◌, ℕ, ℤ, pos, negsuc, List, [], ◌∷◌, Some, true, false, ◌==◌, option_map, refl, ap, ◌∙◌, arith}
use Rattle.std.specs.Prelude.{FitsSigned}
use Rattle.std.specs.Fmt.{signed_decimal}
use Rattle.std.specs.Int.{w64}
use Rattle.std.specs.List.{AllByRecursion, list_all}
use Rattle.std.proofs.lemmas.Bool.Decides.{nat_tests}
use Rattle.tf_numbers.proofs.TruthLemmas.{and_first, and_second}
use Rattle.tf_values.specs.declared.elements.Scalar.{Scalar}
use Rattle.tf_values.specs.declared.elements.Scalar.TheVariants as scalar
use Rattle.tf_values.specs.declared.value.Val.{Val}
use Rattle.tf_values.specs.declared.value.Val.TheVariants as value
use Rattle.tf_values.specs.Scalars.{IsElement, are_scalars}
use Rattle.tf_values.specs.Value.{text_form, IsValue, IsTextOf, value_of}
use Rattle.tf_values.proofs.WordLemmas.{number_begins}
use Rattle.tf_words.specs.Verbs.{spelled, is_narrow, is_element, is_value, value_within, value_meant}
use Rattle.tf_words.proofs.SpelledLemmas.{spelled_bare}
use Rattle.tf_words.proofs.FormLemmas.{scalar_read, scalars_read}

-- ---- values

-- each text form of a value spells this value
pub form_spelled : (v : Val) → IsValue v → spelled (text_form v) ≡ Some v
form_spelled value.Nothing is = refl
form_spelled (value.Truth true) is = refl
form_spelled (value.Truth false) is = refl
form_spelled (value.Int z) is =
    let begins = number_begins z is in
    let high = begins.high in
    let bare : (begins.first == 91) ≡ false = grind (arith, nat_tests) in
    spelled_bare (signed_decimal z) begins.others begins.first begins.is bare ∙ ap (option_map value_of) (scalar_read (scalar.Int z) is)
form_spelled (value.Text text) is = ap (option_map value_of) (scalar_read (scalar.Text text) is)
form_spelled (value.List scalars) is = ap (option_map value.List) (scalars_read scalars is.1)

narrow_is : (z : ℤ) → FitsSigned w64 z → is_narrow z ≡ true
narrow_is (pos n) fits = let small = fits.sfits in grind (arith, nat_tests)
narrow_is (negsuc n) fits = let small = fits.sfits in grind (arith, nat_tests)

narrow_fits : (z : ℤ) → is_narrow z ≡ true → FitsSigned w64 z
narrow_fits (pos n) is = record { sfits = grind (arith, nat_tests) }
narrow_fits (negsuc n) is = record { sfits = grind (arith, nat_tests) }

element_is : (s : Scalar) → IsElement s → is_element s ≡ true
element_is scalar.Nothing is = refl
element_is (scalar.Truth truth) is = refl
element_is (scalar.Int z) is = narrow_is z is
element_is (scalar.Text text) is = is

element_fits : (s : Scalar) → is_element s ≡ true → IsElement s
element_fits scalar.Nothing is = tt
element_fits (scalar.Truth truth) is = tt
element_fits (scalar.Int z) is = narrow_fits z is
element_fits (scalar.Text text) is = is

elements_are : (scalars : List Scalar) → AllByRecursion IsElement scalars → list_all is_element scalars ≡ true
elements_are [] are = refl
elements_are (s ∷ others) are = rw (element_is s are.0, elements_are others are.1) refl

elements_fit : (scalars : List Scalar) → list_all is_element scalars ≡ true → AllByRecursion IsElement scalars
elements_fit [] are = tt
elements_fit (s ∷ others) are = (element_fits s (and_first (is_element s) (list_all is_element others) are), elements_fit others (and_second (is_element s) (list_all is_element others) are))

value_is : (v : Val) → IsValue v → is_value v ≡ true
value_is value.Nothing is = refl
value_is (value.Truth truth) is = refl
value_is (value.Int z) is = narrow_is z is
value_is (value.Text text) is = is
value_is (value.List scalars) is = rw (is.0, elements_are scalars is.1) refl

pub value_fits : (v : Val) → is_value v ≡ true → IsValue v
value_fits value.Nothing is = tt
value_fits (value.Truth truth) is = tt
value_fits (value.Int z) is = narrow_fits z is
value_fits (value.Text text) is = is
value_fits (value.List scalars) is = (and_first (are_scalars scalars) (list_all is_element scalars) is, elements_fit scalars (and_second (are_scalars scalars) (list_all is_element scalars) is))

pub meant_by : (bytes : List ℕ) (found : Val) → spelled bytes ≡ Some found → value_meant bytes ≡ value_within found
meant_by [] found is = absurd (cc)
meant_by (b ∷ bytes) found is = rw (is, value_meant) refl

-- a text form stands for its value
pub form_meant : (bytes : List ℕ) (v : Val) → IsTextOf bytes v → value_meant bytes ≡ Some v
form_meant bytes v is =
    let found : spelled bytes ≡ Some v = ap spelled is.form ∙ form_spelled v is.value in
    meant_by bytes v found ∙ rw (value_is v is.value) refl
