-- What spells a value within the limits is the text form of this value.
use Rattle.std.proofs.Common.{◌≡◌, ℕ, pos, zero, suc, ◌<◌, ◌≤◌, ◌^◌, inl, inr, List, [], ◌∷◌, ◌++◌, get_or, Option, Some, None, Bool, true, false, ◌==◌, is_some, option_map, if◌then◌else◌, codes, neg_ℤ, decimal, refl, sym, ap, subst, ◌∙◌, append_assoc, arith}
use Rattle.std.specs.Cmp.Lexicographic.{same_text}
use Rattle.std.specs.Fmt.{signed_decimal}
use Rattle.std.specs.List.{flat_map, list_all}
use Rattle.std.specs.Str.{all_ascii_digits}
use Rattle.std.specs.Str.Parse.{digits_value, signed_digits_value}
use Rattle.std.proofs.lemmas.Fmt.{decimal-digits_value, decimal_digit}
use Rattle.std.proofs.lemmas.Bool.{eqb-true}
use Rattle.std.proofs.lemmas.Bool.Decides.{nat_tests}
use Rattle.std.proofs.lemmas.List.{append-nil}
use Rattle.tf_numbers.proofs.TruthLemmas.{and_first, and_second, or_either}
use Rattle.tf_values.specs.declared.elements.Scalar.{Scalar}
use Rattle.tf_values.specs.declared.elements.Scalar.TheVariants as scalar
use Rattle.tf_values.specs.declared.value.Val.{Val}
use Rattle.tf_values.specs.declared.value.Val.TheVariants as value
use Rattle.tf_values.specs.Scalars.{are_scalars}
use Rattle.tf_values.specs.Value.{value_of, IsTextOf, quoted, scalar_text, further_text, scalars_text, text_form}
use Rattle.tf_values.proofs.ListLemmas.{heads, tails}
use Rattle.tf_words.specs.declared.quotes.Inside.TheVariants as at
use Rattle.tf_words.specs.declared.spelled.Mark.{Mark}
use Rattle.tf_words.specs.declared.spelled.Mark.TheVariants as mark
use Rattle.tf_words.specs.declared.spelled.Quoting.{Quoting}
use Rattle.tf_words.specs.declared.spelled.Quoting.TheVariants as quoting
use Rattle.tf_words.specs.Verbs.{text_from, text_in_quotes, same_word, is_digit, is_count, is_integer, scalar_spelled, mark_of, in_front, at_end, scalars_from, scalars_spelled, spelled, quoting_after, is_narrow, is_element, is_value, value_meant}
use Rattle.tf_words.proofs.FormLemmas.{natural_value}
use Rattle.tf_words.proofs.ValueFormLemmas.{value_fits, meant_by}
use Rattle.tf_words.proofs.ReadingLemmas.{text_goes}
use Rattle.tf_words.proofs.SpelledLemmas.{by_mark}
use Rattle.tf_values.proofs.QuoteLemmas.{on_test}
use Rattle.tf_values.proofs.WordLemmas.{own_digits}

-- ---- texts

quoted_by : (test : Bool) (first : ℕ) (inner text : List ℕ) → (test ≡ true → first ≡ 34) → (if test then text_from at.Bytes inner else None) ≡ Some text → first ∷ inner ≡ quoted text
quoted_by true first inner text quote is = rw (quote refl) (ap (λ (rest : List ℕ). 34 ∷ rest) (text_goes inner at.Bytes text is))
quoted_by false first inner text quote is = absurd (cc)

quoted_read : (bytes text : List ℕ) → text_in_quotes bytes ≡ Some text → bytes ≡ quoted text
quoted_read [] text is = absurd (cc)
quoted_read (first ∷ inner) text is = quoted_by (first == 34) first inner text (eqb-true first 34) is

-- ---- integers

all_digits : (ds : List ℕ) → list_all is_digit ds ≡ true → all_ascii_digits ds ≡ true
all_digits [] are = refl
all_digits (d ∷ ds) are =
    let rest : list_all is_digit ds ≡ true = grind (arith, nat_tests) in
    let others : all_ascii_digits ds ≡ true = all_digits ds rest in
    grind (arith, nat_tests)

count_read : (ds : List ℕ) → is_count ds ≡ true → digits_value 10 ds < 2 ^ 64 → decimal (digits_value 10 ds) ≡ ds
count_read [] is small = absurd (cc)
count_read (d ∷ ds) is small =
    let rest : list_all is_digit ds ≡ true = grind (arith, nat_tests) in
    let others : all_ascii_digits ds ≡ true = all_digits ds rest in
    let all : all_ascii_digits (d ∷ ds) ≡ true = grind (arith, nat_tests) in
    let above : 49 ≤ d = grind (arith, nat_tests) in
    decimal-digits_value own_digits (d ∷ ds) all (omega arith) (λ zero_first. absurd (omega (arith, zero_first))) small

minus_by : (n : ℕ) (rest : List ℕ) → is_count rest ≡ true → digits_value 10 rest ≡ n → is_narrow (neg_ℤ (pos n)) ≡ true → signed_decimal (neg_ℤ (pos n)) ≡ 45 ∷ rest
minus_by zero rest is value narrow =
    let none : 48 ∷ [] ≡ rest = sym (decimal_digit 0 (omega arith)) ∙ (ap decimal (sym value) ∙ count_read rest is (omega (arith, value))) in
    let wrong : is_count (48 ∷ []) ≡ true = ap is_count none ∙ is in
    absurd (cc)
minus_by (suc m) rest is value narrow =
    let small : m < 2 ^ 63 = grind (arith, nat_tests) in
    ap (λ (ds : List ℕ). 45 ∷ ds) (ap decimal (sym value) ∙ count_read rest is (omega (arith, value)))

front_digit : (ds : List ℕ) → is_count ds ≡ true → 48 ≤ get_or ds 0 0
front_digit [] is = absurd (cc)
front_digit (d ∷ ds) is = grind (arith, nat_tests)

count_form : (ds : List ℕ) → is_count ds ≡ true → is_narrow (signed_digits_value 10 ds) ≡ true → signed_decimal (signed_digits_value 10 ds) ≡ ds
count_form ds is narrow =
    let value : signed_digits_value 10 ds ≡ pos (digits_value 10 ds) = natural_value ds (front_digit ds is) in
    let own : is_narrow (pos (digits_value 10 ds)) ≡ true = ap is_narrow (sym value) ∙ narrow in
    let small : digits_value 10 ds < 2 ^ 63 = grind (arith, nat_tests) in
    ap signed_decimal value ∙ count_read ds is (omega arith)

zero_form : signed_decimal (signed_digits_value 10 (codes "0")) ≡ codes "0"
zero_form = decimal_digit 0 (omega arith)

integer_read : (bytes : List ℕ) → is_integer bytes ≡ true → is_narrow (signed_digits_value 10 bytes) ≡ true → signed_decimal (signed_digits_value 10 bytes) ≡ bytes
integer_read [] is narrow = absurd (cc)
integer_read (first ∷ rest) is narrow =
    on_test (signed_decimal (signed_digits_value 10 (first ∷ rest)) ≡ first ∷ rest) (first == 45)
    (λ minus. minus_read first rest (eqb-true first 45 minus) (rw minus at is) narrow)
    (λ no_minus. elim (or_either (same_word (first ∷ rest) (codes "0")) (is_count (first ∷ rest)) (rw no_minus at is)) [
      | inl none ↦ subst (λ (xs : List ℕ). signed_decimal (signed_digits_value 10 xs) ≡ xs) (sym (same_text (first ∷ rest) (codes "0") (sym none))) zero_form
      | inr count ↦ count_form (first ∷ rest) count narrow
    ])
  where
    minus_read : (first : ℕ) (rest : List ℕ) → first ≡ 45 → is_count rest ≡ true → is_narrow (signed_digits_value 10 (first ∷ rest)) ≡ true → signed_decimal (signed_digits_value 10 (first ∷ rest)) ≡ first ∷ rest
    minus_read first rest minus is narrow =
        let own : is_narrow (neg_ℤ (pos (digits_value 10 rest))) ≡ true = ap (λ (n : ℕ). is_narrow (signed_digits_value 10 (n ∷ rest))) (sym minus) ∙ narrow in
        rw minus (minus_by (digits_value 10 rest) rest is refl own)

-- ---- scalars

word_read : (bytes word : List ℕ) (found s : Scalar) → same_word bytes word ≡ true → Some found ≡ Some s → word ≡ scalar_text found → bytes ≡ scalar_text s
word_read bytes word found s same is form = let found_is : found ≡ s = cc in same_text bytes word (sym same) ∙ (form ∙ ap scalar_text found_is)

int_read : (bytes : List ℕ) (s : Scalar) → is_integer bytes ≡ true → Some (scalar.Int (signed_digits_value 10 bytes)) ≡ Some s → is_element s ≡ true → bytes ≡ scalar_text s
int_read bytes s integer is fits =
    let found_is : scalar.Int (signed_digits_value 10 bytes) ≡ s = cc in
    let narrow : is_narrow (signed_digits_value 10 bytes) ≡ true = ap is_element found_is ∙ fits in
    sym (integer_read bytes integer narrow) ∙ ap scalar_text found_is

text_by : (o : Option (List ℕ)) (bytes : List ℕ) (s : Scalar) → text_in_quotes bytes ≡ o → option_map scalar.Text o ≡ Some s → bytes ≡ scalar_text s
text_by None bytes s there is = absurd (cc)
text_by (Some text) bytes s there is = let found_is : scalar.Text text ≡ s = cc in quoted_read bytes text there ∙ ap scalar_text found_is

pub scalar_form : (bytes : List ℕ) (s : Scalar) → scalar_spelled bytes ≡ Some s → is_element s ≡ true → bytes ≡ scalar_text s
scalar_form bytes s is fits =
    on_test (bytes ≡ scalar_text s) (same_word bytes (codes "null"))
    (λ null. word_read bytes (codes "null") scalar.Nothing s null (rw null at is) refl)
    (λ no_null. on_test (bytes ≡ scalar_text s) (same_word bytes (codes "true"))
    (λ yes. word_read bytes (codes "true") (scalar.Truth true) s yes (rw (no_null, yes) at is) refl)
    (λ no_true. on_test (bytes ≡ scalar_text s) (same_word bytes (codes "false"))
    (λ not. word_read bytes (codes "false") (scalar.Truth false) s not (rw (no_null, no_true, not) at is) refl)
    (λ no_false. on_test (bytes ≡ scalar_text s) (is_integer bytes)
    (λ integer. int_read bytes s integer (rw (no_null, no_true, no_false, integer) at is) fits)
    (λ no_integer. text_by (text_in_quotes bytes) bytes s refl (rw (no_null, no_true, no_false, no_integer) at is)))))

-- ---- lists

comma_is : (place : Quoting) (byte : ℕ) → mark_of place byte ≡ mark.Comma → byte ≡ 44
comma_is quoting.Outside byte is =
    on_test (byte ≡ 44) (byte == 44) (λ yes. eqb-true byte 44 yes)
    (λ no. on_test (byte ≡ 44) (byte == 93) (λ bracket. let wrong : mark.Bracket ≡ mark.Comma = rw (no, bracket) at is in absurd (cc)) (λ other. let wrong : mark.Own ≡ mark.Comma = rw (no, other) at is in absurd (cc)))
comma_is quoting.Inside byte is = absurd (cc)
comma_is quoting.Escaped byte is = absurd (cc)

bracket_is : (place : Quoting) (byte : ℕ) → mark_of place byte ≡ mark.Bracket → byte ≡ 93
bracket_is quoting.Outside byte is =
    on_test (byte ≡ 93) (byte == 44) (λ comma. let wrong : mark.Comma ≡ mark.Bracket = rw comma at is in absurd (cc))
    (λ no. on_test (byte ≡ 93) (byte == 93) (λ yes. eqb-true byte 93 yes) (λ other. let wrong : mark.Own ≡ mark.Bracket = rw (no, other) at is in absurd (cc)))
bracket_is quoting.Inside byte is = absurd (cc)
bracket_is quoting.Escaped byte is = absurd (cc)

-- a scalar that was read in front of others
record Front (o : Option Scalar) (others : Option (List Scalar)) (scalars : List Scalar) : Type 0 where
  first : Scalar
  rest : List Scalar
  there : o ≡ Some first
  behind : others ≡ Some rest
  whole : first ∷ rest ≡ scalars

front_by : (o : Option Scalar) (others : Option (List Scalar)) (scalars : List Scalar) → in_front o others ≡ Some scalars → Front o others scalars
front_by None None scalars is = absurd (cc)
front_by None (Some rest) scalars is = absurd (cc)
front_by (Some first) None scalars is = absurd (cc)
front_by (Some first) (Some rest) scalars is = let same : first ∷ rest ≡ scalars = cc in record { first = first; rest = rest; there = refl; behind = refl; whole = same }

-- the bytes are these scalars, each behind a comma, and a closing bracket
abbrev AreFurther : List ℕ → List Scalar → Type 0
AreFurther bytes scalars = 44 ∷ bytes ≡ flat_map further_text scalars ++ 93 ∷ []

fit_first : (first : Scalar) (rest : List Scalar) → list_all is_element (first ∷ rest) ≡ true → (is_element first ≡ true) × (list_all is_element rest ≡ true)
fit_first first rest are = (and_first (is_element first) (list_all is_element rest) are, and_second (is_element first) (list_all is_element rest) are)

further_more : (part bytes : List ℕ) (first : Scalar) (rest : List Scalar) → part ≡ scalar_text first → AreFurther bytes rest → AreFurther (part ++ 44 ∷ bytes) (first ∷ rest)
further_more part bytes first rest is on =
    rw is (ap (λ (text : List ℕ). 44 ∷ scalar_text first ++ text) on ∙ sym (append_assoc (44 ∷ scalar_text first) (flat_map further_text rest) (93 ∷ [])))

last_of : (part : List ℕ) (first : Scalar) → part ≡ scalar_text first → AreFurther (part ++ 93 ∷ []) (first ∷ [])
last_of part first is = rw is (ap (λ (text : List ℕ). text ++ 93 ∷ []) (sym (append-nil (44 ∷ scalar_text first))))

bracket_done : (part bytes : List ℕ) (byte : ℕ) (first : Scalar) (rest : List Scalar) → byte ≡ 93 → bytes ≡ [] → rest ≡ [] → part ≡ scalar_text first → AreFurther (part ++ byte ∷ bytes) (first ∷ rest)
bracket_done part bytes byte first rest bracket none last is = rw (bracket, none, last) (last_of part first is)

ended_by : (bytes : List ℕ) (rest : List Scalar) → at_end bytes ≡ Some rest → (bytes ≡ []) × (rest ≡ [])
ended_by [] rest is = let same : [] ≡ rest = cc in (refl, sym same)
ended_by (byte ∷ bytes) rest is = absurd (cc)

on_mark : (kind : Mark) (part : List ℕ) (place : Quoting) (byte : ℕ) (bytes : List ℕ) (scalars : List Scalar) → mark_of place byte ≡ kind → by_mark kind part place byte bytes ≡ Some scalars → list_all is_element scalars ≡ true
    → ((next : List ℕ) (after : Quoting) (others : List Scalar) → scalars_from next after bytes ≡ Some others → list_all is_element others ≡ true → AreFurther (next ++ bytes) others) → AreFurther (part ++ byte ∷ bytes) scalars
on_mark mark.Comma part place byte bytes scalars kind is fit on =
    let read = front_by (scalar_spelled part) (scalars_from [] quoting.Outside bytes) scalars is in
    let fits = fit_first read.first read.rest (ap (list_all is_element) read.whole ∙ fit) in
    subst (AreFurther (part ++ byte ∷ bytes)) read.whole
    (rw (comma_is place byte kind) (further_more part bytes read.first read.rest (scalar_form part read.first read.there fits.0) (on [] quoting.Outside read.rest read.behind fits.1)))
on_mark mark.Bracket part place byte bytes scalars kind is fit on =
    let read = front_by (scalar_spelled part) (at_end bytes) scalars is in
    let fits = fit_first read.first read.rest (ap (list_all is_element) read.whole ∙ fit) in
    let end = ended_by bytes read.rest read.behind in
    subst (AreFurther (part ++ byte ∷ bytes)) read.whole
    (bracket_done part bytes byte read.first read.rest (bracket_is place byte kind) end.0 end.1 (scalar_form part read.first read.there fits.0))
on_mark mark.Own part place byte bytes scalars kind is fit on =
    subst (λ (whole : List ℕ). AreFurther whole scalars) (append_assoc part (byte ∷ []) bytes) (on (part ++ byte ∷ []) (quoting_after place byte) scalars is fit)

further_form : (bytes part : List ℕ) (place : Quoting) (scalars : List Scalar) → scalars_from part place bytes ≡ Some scalars → list_all is_element scalars ≡ true → AreFurther (part ++ bytes) scalars
further_form [] part place scalars is fit = absurd (cc)
further_form (byte ∷ bytes) part place scalars is fit =
    on_mark (mark_of place byte) part place byte bytes scalars refl is fit (λ next after others. further_form bytes next after others)

some_further : (bytes : List ℕ) (scalars : List Scalar) → AreFurther bytes scalars → bytes ≡ scalars_text scalars ++ 93 ∷ []
some_further bytes [] is = absurd (omega (arith, heads 44 93 bytes [] is))
some_further bytes (first ∷ rest) is = tails 44 44 bytes ((scalar_text first ++ flat_map further_text rest) ++ 93 ∷ []) is

scalars_form : (bytes : List ℕ) (scalars : List Scalar) → scalars_spelled bytes ≡ Some scalars → list_all is_element scalars ≡ true → bytes ≡ scalars_text scalars ++ 93 ∷ []
scalars_form bytes scalars is fit =
    on_test (bytes ≡ scalars_text scalars ++ 93 ∷ []) (same_word bytes (codes "]"))
    (λ closed. let none : [] ≡ scalars = some_same [] scalars (rw closed at is) in same_text bytes (codes "]") (sym closed) ∙ ap (λ (all : List Scalar). scalars_text all ++ 93 ∷ []) none)
    (λ longer. some_further bytes scalars (further_form bytes [] quoting.Outside scalars (rw longer at is) fit))
  where
    some_same : (xs ys : List Scalar) → Some xs ≡ Some ys → xs ≡ ys
    some_same xs ys e = cc

-- ---- values

value_by : (o : Option Scalar) (bytes : List ℕ) (v : Val) → scalar_spelled bytes ≡ o → option_map value_of o ≡ Some v → is_value v ≡ true → bytes ≡ text_form v
value_by None bytes v there is fits = absurd (cc)
value_by (Some s) bytes v there is fits =
    let same : value_of s ≡ v = cc in
    scalar_form bytes s there (element_of s (ap is_value same ∙ fits)) ∙ (form_of s ∙ ap text_form same)
  where
    element_of : (s : Scalar) → is_value (value_of s) ≡ true → is_element s ≡ true
    element_of scalar.Nothing is = refl
    element_of (scalar.Truth truth) is = refl
    element_of (scalar.Int z) is = is
    element_of (scalar.Text text) is = is

    form_of : (s : Scalar) → scalar_text s ≡ text_form (value_of s)
    form_of scalar.Nothing = refl
    form_of (scalar.Truth truth) = refl
    form_of (scalar.Int z) = refl
    form_of (scalar.Text text) = refl

list_by : (o : Option (List Scalar)) (bytes : List ℕ) (v : Val) → scalars_spelled bytes ≡ o → option_map value.List o ≡ Some v → is_value v ≡ true → 91 ∷ bytes ≡ text_form v
list_by None bytes v there is fits = absurd (cc)
list_by (Some scalars) bytes v there is fits =
    let same : value.List scalars ≡ v = cc in
    let elements : list_all is_element scalars ≡ true = and_second (are_scalars scalars) (list_all is_element scalars) (ap is_value same ∙ fits) in
    ap (λ (rest : List ℕ). 91 ∷ rest) (scalars_form bytes scalars there elements) ∙ ap text_form same

-- what spells a value within the limits is its text form
pub spelled_form : (bytes : List ℕ) (v : Val) → spelled bytes ≡ Some v → is_value v ≡ true → bytes ≡ text_form v
spelled_form [] v is fits = absurd (cc)
spelled_form (first ∷ bytes) v is fits =
    on_test (first ∷ bytes ≡ text_form v) (first == 91)
    (λ bracket. ap (λ (n : ℕ). n ∷ bytes) (eqb-true first 91 bracket) ∙ list_by (scalars_spelled bytes) bytes v refl (rw bracket at is) fits)
    (λ bare. value_by (scalar_spelled (first ∷ bytes)) (first ∷ bytes) v refl (rw bare at is) fits)

none_within : (test : Bool) (bytes : List ℕ) (found : Val) → (test ≡ true → IsTextOf bytes found) → ((v : Val) → ¬ (IsTextOf bytes v)) → (if test then Some found else None) ≡ None
none_within true bytes found told none = absurd (none found (told refl))
none_within false bytes found told none = refl

none_by : (o : Option Val) (bytes : List ℕ) → spelled bytes ≡ o → is_some o ≡ true → ((v : Val) → ¬ (IsTextOf bytes v)) → value_meant bytes ≡ None
none_by None bytes is some none = absurd (cc)
none_by (Some found) bytes is some none =
    meant_by bytes found is ∙ none_within (is_value found) bytes found (λ fits. record { value = value_fits found fits; form = spelled_form bytes found is fits }) none

-- what spells a value past the limits stands for none
pub none_meant : (bytes : List ℕ) → ((v : Val) → ¬ (IsTextOf bytes v)) → is_some (spelled bytes) ≡ true → value_meant bytes ≡ None
none_meant bytes none is = none_by (spelled bytes) bytes refl is none
