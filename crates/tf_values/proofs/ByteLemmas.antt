-- The byte form of a scalar has one reading.
use Rattle.std.proofs.Common.{◌≡◌, ◌==◌, ◌≢◌, ◌/◌, ◌%◌, ℕ, ◌<◌, ◌≤◌, ◌^◌, List, [], ◌∷◌, ◌++◌, length, take, drop, Option, Some, None, true, false, if◌then◌else◌, refl, sym, ap, ◌∙◌, arith}
use Rattle.std.specs.Int.{w16, w32, w64, to_be_bytes, from_be_bytes, cast_signed, cast_unsigned}
use Rattle.std.specs.Prelude.{FitsSigned, ℤ}
use Rattle.std.proofs.lemmas.List.{take_at, drop_at, take-append-drop}
use Rattle.std.proofs.lemmas.Int.{ints, to_z-of_z}
use Rattle.std.proofs.lemmas.Nat.{from_be_bytes-to_be_bytes_4, from_be_bytes-to_be_bytes_8}
use Rattle.std.proofs.lemmas.Grind.{common_steps}
use Rattle.tf_values.specs.declared.elements.Scalar.{Scalar}
use Rattle.tf_values.specs.declared.elements.Scalar.TheVariants as scalar
use Rattle.tf_values.specs.Text.{is_text}
use Rattle.tf_values.specs.Scalars.{scalar_bytes, text_bytes, list_bytes, IsElement, are_scalars}
use Rattle.tf_values.specs.Value.{byte_form, IsValue, BeginsWith}
use Rattle.tf_values.specs.declared.value.Val.{Val}
use Rattle.tf_values.specs.declared.value.Val.TheVariants as value
use Rattle.std.specs.List.{flat_map, AllByRecursion}
use Rattle.tf_values.proofs.ListLemmas.{heads, differ}
use Rattle.tf_values.proofs.Codes.{IsCode, no_longer, one_counted}

-- the scalar in front, and the bytes behind its form
abbrev scalar_of : List ℕ → Option (Scalar × List ℕ)
scalar_of [] = None
scalar_of (tag ∷ rest) =
    if tag == 0 then Some (scalar.Nothing, rest)
    else if tag == 1 then Some (scalar.Truth false, rest)
    else if tag == 2 then Some (scalar.Truth true, rest)
    else if tag == 3 then Some (scalar.Int (cast_signed w64 (from_be_bytes w64 (take 8 rest))), drop 8 rest)
    else Some (scalar.Text (take (from_be_bytes w32 (take 4 rest)) (drop 4 rest)), drop (from_be_bytes w32 (take 4 rest)) (drop 4 rest))

pub text_is_short : (text : List ℕ) → is_text text ≡ true → length text ≤ 65536
text_is_short text is = grind (arith, common_steps)

unsigned_fits : (number : ℤ) → FitsSigned w64 number → cast_unsigned w64 number < 2 ^ 64
unsigned_fits number fits = omega (arith, ints)

scalar_again : (s : Scalar) (rest : List ℕ) → IsElement s → scalar_of (scalar_bytes s ++ rest) ≡ Some (s, rest)
scalar_again scalar.Nothing rest is = refl
scalar_again (scalar.Truth false) rest is = refl
scalar_again (scalar.Truth true) rest is = refl
scalar_again (scalar.Int number) rest is =
    let unsigned = from_be_bytes-to_be_bytes_8 (cast_unsigned w64 number) (unsigned_fits number is) in
    ap (λ (n : ℕ). Some (scalar.Int (cast_signed w64 n), rest)) unsigned ∙ ap (λ (z : ℤ). Some (scalar.Int z, rest)) (to_z-of_z w64 number is)
scalar_again (scalar.Text text) rest is =
    let short = text_is_short text is in
    let len = from_be_bytes-to_be_bytes_4 (length text) (omega arith) in
    ap (λ (n : ℕ). Some (scalar.Text (take n (text ++ rest)), drop n (text ++ rest))) len ∙ rw (take_at text rest (length text) refl, drop_at text rest (length text) refl) refl

pub scalar_one : (x y : Scalar) (a b : List ℕ) → IsElement x → IsElement y → scalar_bytes x ++ a ≡ scalar_bytes y ++ b → (x ≡ y) × (a ≡ b)
scalar_one x y a b gx gy e =
    let same : Some (x, a) ≡ Some (y, b) = sym (scalar_again x a gx) ∙ ap scalar_of e ∙ scalar_again y b gy in
    let pairs : (x, a) ≡ (y, b) = cc in
    (ap (λ (p : Scalar × List ℕ). p.0) pairs, ap (λ (p : Scalar × List ℕ). p.1) pairs)

-- whatever follows, no scalar's byte form begins another's
pub scalar_code : IsCode scalar_bytes IsElement (λ _. Unit {0})
scalar_code = record { one = λ x y a b gx gy fa fb e. scalar_one x y a b gx gy e; forms_follow = λ x a gx. tt }

-- scalars that were read up to where none stands are no beginning of more scalars
pub stuck_scalars : (items scalars : List Scalar) (a b : List ℕ) → AllByRecursion IsElement items → AllByRecursion IsElement scalars → length items < length scalars
    → ((s : Scalar) (rest : List ℕ) → IsElement s → a ≢ scalar_bytes s ++ rest) → flat_map scalar_bytes items ++ a ≢ flat_map scalar_bytes scalars ++ b
stuck_scalars items scalars a b gi gs shorter none e = no_longer scalar_bytes IsElement (λ _. Unit {0}) scalar_code items scalars a b gi gs tt tt (λ s rest good follows. none s rest good) shorter e

both_bytes : (m n : ℕ) → m < 2 ^ 16 → n < 2 ^ 16 → m / 256 % 256 ≡ n / 256 % 256 → m % 256 ≡ n % 256 → m ≡ n
both_bytes m n lm ln high low = omega arith

-- whatever follows, no list's byte form begins another's
pub list_one : (items scalars : List Scalar) (a b : List ℕ) → AllByRecursion IsElement items → AllByRecursion IsElement scalars → length items < 2 ^ 16 → length scalars < 2 ^ 16
    → list_bytes items ++ a ≡ list_bytes scalars ++ b → (items ≡ scalars) × (a ≡ b)
list_one items scalars a b gi gs li ls e =
    let high : length items / 256 % 256 ≡ length scalars / 256 % 256 = cc in
    let low : length items % 256 ≡ length scalars % 256 = cc in
    let rest : flat_map scalar_bytes items ++ a ≡ flat_map scalar_bytes scalars ++ b = cc in
    one_counted scalar_bytes IsElement (λ _. Unit {0}) scalar_code items scalars a b gi gs tt tt (both_bytes (length items) (length scalars) li ls high low) rest

pub list_is_short : (scalars : List Scalar) → are_scalars scalars ≡ true → length scalars < 2 ^ 16
list_is_short scalars is = grind (arith, common_steps)

-- items that pass a limit are no list's
pub no_list : (items : List Scalar) (rest : List ℕ) (count : ℕ) (bytes : List ℕ) → AllByRecursion IsElement items → length items ≡ count → count < 2 ^ 16 → are_scalars items ≡ false
    → bytes ≡ to_be_bytes w16 count ++ (flat_map scalar_bytes items ++ rest)
    → (scalars : List Scalar) (after : List ℕ) → are_scalars scalars ≡ true → AllByRecursion IsElement scalars → 5 ∷ bytes ≢ list_bytes scalars ++ after
no_list items rest count bytes gi counted below past read scalars after is gs e =
    let whole : list_bytes items ++ rest ≡ 5 ∷ bytes = rw (read, counted) refl in
    let same = list_one items scalars rest after gi gs (omega arith) (list_is_short scalars is) (whole ∙ e) in
    differ (are_scalars items) past (ap are_scalars same.0 ∙ is)

-- behind the tag 5 only a list can stand
pub no_value-list : (tag : ℕ) (rest bytes : List ℕ) → bytes ≡ tag ∷ rest → tag ≡ 5
    → ((scalars : List Scalar) (after : List ℕ) → are_scalars scalars ≡ true → AllByRecursion IsElement scalars → 5 ∷ rest ≢ list_bytes scalars ++ after)
    → (v : Val) (after : List ℕ) → IsValue v → bytes ≢ byte_form v ++ after
no_value-list tag rest bytes read tagged none value.Nothing after is e = absurd (omega (arith, heads tag 0 rest after (sym read ∙ e)))
no_value-list tag rest bytes read tagged none (value.Truth false) after is e = absurd (omega (arith, heads tag 1 rest after (sym read ∙ e)))
no_value-list tag rest bytes read tagged none (value.Truth true) after is e = absurd (omega (arith, heads tag 2 rest after (sym read ∙ e)))
no_value-list tag rest bytes read tagged none (value.Int number) after is e = absurd (omega (arith, heads tag 3 rest (to_be_bytes w64 (cast_unsigned w64 number) ++ after) (sym read ∙ e)))
no_value-list tag rest bytes read tagged none (value.Text text) after is e = absurd (omega (arith, heads tag 4 rest (text_bytes text ++ after) (sym read ∙ e)))
no_value-list tag rest bytes read tagged none (value.List scalars) after is e = none scalars after is.0 is.1 (ap (λ (n : ℕ). n ∷ rest) (sym tagged) ∙ sym read ∙ e)

-- behind another tag only a scalar can stand
pub no_value-scalar : (tag : ℕ) (rest bytes : List ℕ) → bytes ≡ tag ∷ rest → tag ≢ 5
    → ((s : Scalar) (after : List ℕ) → IsElement s → bytes ≢ scalar_bytes s ++ after)
    → (v : Val) (after : List ℕ) → IsValue v → bytes ≢ byte_form v ++ after
no_value-scalar tag rest bytes read tagged none value.Nothing after is e = none scalar.Nothing after is e
no_value-scalar tag rest bytes read tagged none (value.Truth truth) after is e = none (scalar.Truth truth) after is e
no_value-scalar tag rest bytes read tagged none (value.Int number) after is e = none (scalar.Int number) after is e
no_value-scalar tag rest bytes read tagged none (value.Text text) after is e = none (scalar.Text text) after is e
no_value-scalar tag rest bytes read tagged none (value.List scalars) after is e = tagged cc

-- the value that begins the bytes stands in front of the rest
pub begins_none : (bytes : List ℕ) → ((v : Val) (after : List ℕ) → IsValue v → bytes ≢ byte_form v ++ after) → (v : Val) (len : ℕ) → ¬ (BeginsWith bytes v len)
begins_none bytes none v len is = none v (drop len bytes) is.value (sym (take-append-drop len bytes) ∙ ap (λ (form : List ℕ). form ++ drop len bytes) is.form)
