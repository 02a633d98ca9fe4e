-- The text form of a value is read as this value.
use Rattle.std.proofs.Common.{◌≡◌, ℕ, ℤ, pos, negsuc, zero, suc, ◌+◌, ◌*◌, ◌/◌, ◌%◌, ◌<◌, ◌≤◌, ◌^◌, inl, inr, List, [], ◌∷◌, ◌++◌, length, get_or, Option, Some, None, Bool, true, false, ◌||◌, ◌==◌, option_map, codes, refl, sym, ap, subst, ◌∙◌, append_assoc, arith, decimal, neg_ℤ}
use Rattle.std.specs.Prelude.{FitsSigned}
use Rattle.std.specs.Fmt.{signed_decimal}
use Rattle.std.specs.Int.{w64}
use Rattle.std.specs.List.{flat_map, AllByRecursion, list_all}
use Rattle.std.specs.Str.{all_ascii_digits}
use Rattle.std.specs.Str.Parse.{digits_value, signed_digits_value}
use Rattle.std.proofs.lemmas.Fmt.{digits_decimal, digits_value-decimal, decimal_nonempty, decimal_digit, first_decimal}
use Rattle.std.proofs.lemmas.Bool.{cases_lt}
use Rattle.std.proofs.lemmas.Bool.Decides.{nat_tests}
use Rattle.std.proofs.lemmas.List.{append-nil}
use Rattle.tf_numbers.proofs.TruthLemmas.{or_true}
use Rattle.tf_values.specs.declared.elements.Scalar.{Scalar}
use Rattle.tf_values.specs.declared.elements.Scalar.TheVariants as scalar
use Rattle.tf_values.specs.Scalars.{IsElement}
use Rattle.tf_values.specs.Value.{hexadecimal, quoted_byte, scalar_text, further_text, scalars_text}
use Rattle.tf_values.proofs.QuoteLemmas.{IsControl, IsPlain, quoted_cases, nibble-hexadecimal, digits_form}
use Rattle.tf_values.proofs.WordLemmas.{BeginsNumber, number_begins, own_digits}
use Rattle.tf_words.specs.declared.quotes.Inside.TheVariants as at
use Rattle.tf_words.specs.declared.spelled.Quoting.TheVariants as quoting
use Rattle.tf_words.specs.Verbs.{nibble, is_hexadecimal, are_digits, is_plain, emitted, text_from, same_word, is_digit, is_count, is_integer, scalar_spelled, in_front, scalars_from, scalars_spelled}

-- ---- texts in quotes

digit_is : (n : ℕ) → n < 16 → is_hexadecimal (hexadecimal n) ≡ true
digit_is n small = grind (arith, nat_tests)

low_control : (b : ℕ) → IsControl b → b < 16 → are_digits (hexadecimal (b / 16)) (hexadecimal (b % 16)) ≡ true
low_control b is low =
    let none : b / 16 ≡ 0 = omega arith in
    let same : b % 16 ≡ b = omega arith in
    let tab = is.no_tab in
    let feed = is.no_feed in
    let no_nine : (hexadecimal b == 57) ≡ false = grind (arith, nat_tests) in
    let no_ten : (hexadecimal b == 97) ≡ false = grind (arith, nat_tests) in
    rw (none, same, digit_is b low, no_nine, no_ten) refl

high_control : (b : ℕ) → 16 ≤ b → b < 32 → are_digits (hexadecimal (b / 16)) (hexadecimal (b % 16)) ≡ true
high_control b from below =
    let one : b / 16 ≡ 1 = omega arith in
    rw one (digit_is (b % 16) (omega arith))

control_digits : (b : ℕ) → IsControl b → are_digits (hexadecimal (b / 16)) (hexadecimal (b % 16)) ≡ true
control_digits b is =
    elim is.low [
      | inl low ↦ elim (cases_lt b 16) [ inl below ↦ low_control b is below | inr from ↦ high_control b from low ]
      | inr delete ↦ subst (λ (n : ℕ). are_digits (hexadecimal (n / 16)) (hexadecimal (n % 16)) ≡ true) (sym delete) refl
    ]

control_small : (b : ℕ) → IsControl b → b < 256
control_small b is = elim is.low [ inl low ↦ omega arith | inr delete ↦ omega arith ]

joined : (b : ℕ) → b < 256 → nibble (hexadecimal (b / 16)) * 16 + nibble (hexadecimal (b % 16)) ≡ b
joined b small = rw (nibble-hexadecimal (b / 16) (omega arith), nibble-hexadecimal (b % 16) (omega arith)) (omega arith)

no_quote : (b : ℕ) → IsPlain b → (b == 34) ≡ false
no_quote b is = grind (arith, nat_tests)

no_slash : (b : ℕ) → IsPlain b → (b == 92) ≡ false
no_slash b is = grind (arith, nat_tests)

plain_is : (b : ℕ) → IsPlain b → is_plain b ≡ true
plain_is b is = grind (arith, nat_tests)

twice : (b : ℕ) (o : Option (List ℕ)) → option_map (λ (text : List ℕ). [] ++ text) (option_map (λ (text : List ℕ). (b ∷ []) ++ text) o) ≡ option_map (λ (text : List ℕ). b ∷ text) o
twice b None = refl
twice b (Some text) = refl

-- five bytes of a form of six are behind
five : (o : Option (List ℕ)) → option_map (λ (text : List ℕ). [] ++ text) (option_map (λ (text : List ℕ). [] ++ text) (option_map (λ (text : List ℕ). [] ++ text) (option_map (λ (text : List ℕ). [] ++ text) (option_map (λ (text : List ℕ). [] ++ text) o)))) ≡ o
five None = refl
five (Some text) = refl

digit_read : (high low b : ℕ) (rest : List ℕ) → are_digits high low ≡ true → nibble high * 16 + nibble low ≡ b → text_from (at.Digit high) (low ∷ rest) ≡ option_map (λ (text : List ℕ). b ∷ text) (text_from at.Bytes rest)
digit_read high low b rest are sum = rw (are, text_from) (ap (λ (n : ℕ). option_map (λ (text : List ℕ). n ∷ text) (text_from at.Bytes rest)) sum)

plain_emitted : (b : ℕ) → (b == 34) ≡ false → (b == 92) ≡ false → emitted at.Bytes b ≡ b ∷ []
plain_emitted b quote slash = rw (quote, slash) refl

plain_read : (b : ℕ) (rest : List ℕ) → (b == 34) ≡ false → (b == 92) ≡ false → is_plain b ≡ true → text_from at.Bytes (b ∷ rest) ≡ option_map (λ (text : List ℕ). b ∷ text) (text_from at.Bytes rest)
plain_read b rest quote slash plain =
    let own : emitted at.Bytes b ≡ b ∷ [] = plain_emitted b quote slash in
    rw (quote, slash, plain, text_from) (ap (λ (front : List ℕ). option_map (λ (text : List ℕ). front ++ text) (text_from at.Bytes rest)) own)

byte_read : (rest : List ℕ) (b : ℕ) → text_from at.Bytes (quoted_byte b ++ rest) ≡ option_map (λ (text : List ℕ). b ∷ text) (text_from at.Bytes rest)
byte_read rest = quoted_cases (λ b form. text_from at.Bytes (form ++ rest) ≡ option_map (λ (text : List ℕ). b ∷ text) (text_from at.Bytes rest))
    (twice 34 (text_from at.Bytes rest)) (twice 92 (text_from at.Bytes rest)) (twice 10 (text_from at.Bytes rest)) (twice 9 (text_from at.Bytes rest))
    (λ b is. five (text_from (at.Digit (hexadecimal (b / 16))) (hexadecimal (b % 16) ∷ rest)) ∙ digit_read (hexadecimal (b / 16)) (hexadecimal (b % 16)) b rest (control_digits b is) (joined b (control_small b is)))
    (λ b is. plain_read b rest (no_quote b is) (no_slash b is) (plain_is b is))

pub text_read : (text : List ℕ) → text_from at.Bytes (flat_map quoted_byte text ++ 34 ∷ []) ≡ Some text
text_read [] = refl
text_read (b ∷ text) =
    ap (text_from at.Bytes) (append_assoc (quoted_byte b) (flat_map quoted_byte text) (34 ∷ []))
    ∙ byte_read (flat_map quoted_byte text ++ 34 ∷ []) b
    ∙ ap (option_map (λ (t : List ℕ). b ∷ t)) (text_read text)

-- ---- integers

are_all_digits : (ds : List ℕ) → all_ascii_digits ds ≡ true → list_all is_digit ds ≡ true
are_all_digits [] is = refl
are_all_digits (d ∷ ds) is =
    let rest : all_ascii_digits ds ≡ true = grind (arith, nat_tests) in
    let others : list_all is_digit ds ≡ true = are_all_digits ds rest in
    grind (arith, nat_tests)

count_is : (ds : List ℕ) → all_ascii_digits ds ≡ true → 48 < get_or ds 0 0 → is_count ds ≡ true
count_is [] is above = absurd (omega arith)
count_is (d ∷ ds) is above =
    let rest : all_ascii_digits ds ≡ true = grind (arith, nat_tests) in
    let others : list_all is_digit ds ≡ true = are_all_digits ds rest in
    grind (arith, nat_tests)

positive_is : (n : ℕ) → 0 < n → n < 2 ^ 64 → is_count (decimal n) ≡ true
positive_is n some fits = count_is (decimal n) (digits_decimal own_digits n fits) (first_decimal n some fits)

integer_by : (ds : List ℕ) → is_count ds ≡ true → is_integer ds ≡ true
integer_by [] is = absurd (cc)
integer_by (d ∷ ds) is =
    let no_minus : (d == 45) ≡ false = grind (arith, nat_tests) in
    rw (no_minus, is) (or_true (same_word (d ∷ ds) (codes "0")))

natural_is : (n : ℕ) → n < 2 ^ 64 → is_integer (decimal n) ≡ true
natural_is zero fits = rw (decimal_digit 0 (omega arith)) refl
natural_is (suc n) fits = integer_by (decimal (suc n)) (positive_is (suc n) (omega arith) fits)

pub integer_is : (z : ℤ) → FitsSigned w64 z → is_integer (signed_decimal z) ≡ true
integer_is (pos n) fits = let small = fits.sfits in natural_is n (omega arith)
integer_is (negsuc n) fits = let small = fits.sfits in positive_is (suc n) (omega arith) (omega arith)

digits_front : (ds : List ℕ) → all_ascii_digits ds ≡ true → 0 < length ds → 48 ≤ get_or ds 0 0
digits_front [] is some = absurd (omega arith)
digits_front (d ∷ ds) is some = grind (arith, nat_tests)

pub natural_value : (ds : List ℕ) → 48 ≤ get_or ds 0 0 → signed_digits_value 10 ds ≡ pos (digits_value 10 ds)
natural_value ds above =
    let no_minus : (get_or ds 0 0 == 45) ≡ false = grind (arith, nat_tests) in
    let no_plus : (get_or ds 0 0 == 43) ≡ false = grind (arith, nat_tests) in
    rw (no_minus, no_plus) refl

pub integer_value : (z : ℤ) → FitsSigned w64 z → signed_digits_value 10 (signed_decimal z) ≡ z
integer_value (pos n) fits =
    let small = fits.sfits in
    natural_value (decimal n) (digits_front (decimal n) (digits_decimal own_digits n (omega arith)) (decimal_nonempty n (omega arith)))
    ∙ ap pos (digits_value-decimal own_digits n (omega arith))
integer_value (negsuc n) fits = let small = fits.sfits in ap (λ (m : ℕ). neg_ℤ (pos m)) (digits_value-decimal own_digits (suc n) (omega arith))

-- ---- scalars

other_first : (first c : ℕ) (xs ys : List ℕ) → (first == c) ≡ false → same_word (first ∷ xs) (c ∷ ys) ≡ false
other_first first c xs ys is = rw is refl

-- a number is none of the words that begin with a letter or a bracket
other_word : (text rest ys : List ℕ) (c : ℕ) → BeginsNumber text → 57 < c → same_word (text ++ rest) (c ∷ ys) ≡ false
other_word text rest ys c begins above =
    let high = begins.high in
    let no : (begins.first == c) ≡ false = grind (arith, nat_tests) in
    rw begins.is (other_first begins.first c (begins.others ++ rest) ys no)

no_word : (text ys : List ℕ) (c : ℕ) → BeginsNumber text → 57 < c → same_word text (c ∷ ys) ≡ false
no_word text ys c begins above =
    let high = begins.high in
    let no : (begins.first == c) ≡ false = grind (arith, nat_tests) in
    rw begins.is (other_first begins.first c begins.others ys no)

pub scalar_read : (s : Scalar) → IsElement s → scalar_spelled (scalar_text s) ≡ Some s
scalar_read scalar.Nothing is = refl
scalar_read (scalar.Truth true) is = refl
scalar_read (scalar.Truth false) is = refl
scalar_read (scalar.Int z) is =
    let begins = number_begins z is in
    let no_null = no_word (signed_decimal z) (codes "ull") 110 begins (omega arith) in
    let no_true = no_word (signed_decimal z) (codes "rue") 116 begins (omega arith) in
    let no_false = no_word (signed_decimal z) (codes "alse") 102 begins (omega arith) in
    rw (no_null, no_true, no_false, integer_is z is, integer_value z is) refl
scalar_read (scalar.Text text) is = ap (option_map scalar.Text) (text_read text)

-- ---- lists

inside_byte : (b : ℕ) (rest part : List ℕ) → (b == 34) ≡ false → (b == 92) ≡ false → scalars_from part quoting.Inside (b ∷ rest) ≡ scalars_from (part ++ b ∷ []) quoting.Inside rest
inside_byte b rest part quote slash = rw (quote, slash) refl

digit_no_quote : (n : ℕ) → n < 16 → (hexadecimal n == 34) ≡ false
digit_no_quote n small = grind (arith, nat_tests)

digit_no_slash : (n : ℕ) → n < 16 → (hexadecimal n == 92) ≡ false
digit_no_slash n small = grind (arith, nat_tests)

walk_control : (b : ℕ) → b < 256 → (rest part : List ℕ) → scalars_from part quoting.Inside (digits_form b ++ rest) ≡ scalars_from (part ++ digits_form b) quoting.Inside rest
walk_control b small rest part =
    let front : List ℕ = (((part ++ 92 ∷ []) ++ 117 ∷ []) ++ 48 ∷ []) ++ 48 ∷ [] in
    let high : ℕ = hexadecimal (b / 16) in
    let low : ℕ = hexadecimal (b % 16) in
    inside_byte high (low ∷ rest) front (digit_no_quote (b / 16) (omega arith)) (digit_no_slash (b / 16) (omega arith))
    ∙ inside_byte low rest (front ++ high ∷ []) (digit_no_quote (b % 16) (omega arith)) (digit_no_slash (b % 16) (omega arith))
    ∙ ap (λ (xs : List ℕ). scalars_from xs quoting.Inside rest) (simp append_assoc)

walk_byte : (rest : List ℕ) (b : ℕ) (part : List ℕ) → scalars_from part quoting.Inside (quoted_byte b ++ rest) ≡ scalars_from (part ++ quoted_byte b) quoting.Inside rest
walk_byte rest = quoted_cases (λ b form. (part : List ℕ) → scalars_from part quoting.Inside (form ++ rest) ≡ scalars_from (part ++ form) quoting.Inside rest)
    (λ part. ap (λ (front : List ℕ). scalars_from front quoting.Inside rest) (append_assoc part (92 ∷ []) (34 ∷ [])))
    (λ part. ap (λ (front : List ℕ). scalars_from front quoting.Inside rest) (append_assoc part (92 ∷ []) (92 ∷ [])))
    (λ part. ap (λ (front : List ℕ). scalars_from front quoting.Inside rest) (append_assoc part (92 ∷ []) (110 ∷ [])))
    (λ part. ap (λ (front : List ℕ). scalars_from front quoting.Inside rest) (append_assoc part (92 ∷ []) (116 ∷ [])))
    (λ b is part. walk_control b (control_small b is) rest part)
    (λ b is part. inside_byte b rest part (no_quote b is) (no_slash b is))

walk_text : (text rest part : List ℕ) → scalars_from part quoting.Inside (flat_map quoted_byte text ++ 34 ∷ rest) ≡ scalars_from (part ++ (flat_map quoted_byte text ++ 34 ∷ [])) quoting.Outside rest
walk_text [] rest part = refl
walk_text (b ∷ text) rest part =
    ap (scalars_from part quoting.Inside) (append_assoc (quoted_byte b) (flat_map quoted_byte text) (34 ∷ rest))
    ∙ walk_byte (flat_map quoted_byte text ++ 34 ∷ rest) b part
    ∙ walk_text text rest (part ++ quoted_byte b)
    ∙ ap (λ (front : List ℕ). scalars_from front quoting.Outside rest) (simp append_assoc)

-- the bytes of a number: digits, and a hyphen in front
abbrev are_number_bytes : List ℕ → Bool
are_number_bytes word = list_all (λ byte. byte == 45 || is_digit byte) word

number_digits : (ds : List ℕ) → all_ascii_digits ds ≡ true → are_number_bytes ds ≡ true
number_digits [] is = refl
number_digits (d ∷ ds) is =
    let rest : all_ascii_digits ds ≡ true = grind (arith, nat_tests) in
    let others : are_number_bytes ds ≡ true = number_digits ds rest in
    grind (arith, nat_tests)

number_bytes : (z : ℤ) → FitsSigned w64 z → are_number_bytes (signed_decimal z) ≡ true
number_bytes (pos n) fits = let small = fits.sfits in number_digits (decimal n) (digits_decimal own_digits n (omega arith))
number_bytes (negsuc n) fits = let small = fits.sfits in number_digits (decimal (suc n)) (digits_decimal own_digits (suc n) (omega arith))

outside_byte : (b : ℕ) (rest part : List ℕ) → (b == 44) ≡ false → (b == 93) ≡ false → (b == 34) ≡ false → scalars_from part quoting.Outside (b ∷ rest) ≡ scalars_from (part ++ b ∷ []) quoting.Outside rest
outside_byte b rest part comma bracket quote = rw (comma, bracket, quote, scalars_from) refl

walk_number : (word rest part : List ℕ) → are_number_bytes word ≡ true → scalars_from part quoting.Outside (word ++ rest) ≡ scalars_from (part ++ word) quoting.Outside rest
walk_number [] rest part is = ap (λ (front : List ℕ). scalars_from front quoting.Outside rest) (sym (append-nil part))
walk_number (b ∷ word) rest part is =
    let others : are_number_bytes word ≡ true = grind (arith, nat_tests) in
    let no_comma : (b == 44) ≡ false = grind (arith, nat_tests) in
    let no_bracket : (b == 93) ≡ false = grind (arith, nat_tests) in
    let no_quote : (b == 34) ≡ false = grind (arith, nat_tests) in
    outside_byte b (word ++ rest) part no_comma no_bracket no_quote
    ∙ walk_number word rest (part ++ b ∷ []) others
    ∙ ap (λ (front : List ℕ). scalars_from front quoting.Outside rest) (append_assoc part (b ∷ []) word)

walk_scalar : (s : Scalar) (rest : List ℕ) → IsElement s → scalars_from [] quoting.Outside (scalar_text s ++ rest) ≡ scalars_from (scalar_text s) quoting.Outside rest
walk_scalar scalar.Nothing rest is = refl
walk_scalar (scalar.Truth true) rest is = refl
walk_scalar (scalar.Truth false) rest is = refl
walk_scalar (scalar.Int z) rest is = walk_number (signed_decimal z) rest [] (number_bytes z is)
walk_scalar (scalar.Text text) rest is =
    ap (scalars_from (34 ∷ []) quoting.Inside) (append_assoc (flat_map quoted_byte text) (34 ∷ []) rest)
    ∙ walk_text text rest (34 ∷ [])

list_read : (s : Scalar) (others : List Scalar) → IsElement s → AllByRecursion IsElement others → scalars_from (scalar_text s) quoting.Outside (flat_map further_text others ++ 93 ∷ []) ≡ Some (s ∷ others)
list_read s [] is are = ap (λ (o : Option Scalar). in_front o (Some [])) (scalar_read s is)
list_read s (t ∷ others) is are =
    let rest : List ℕ = flat_map further_text others in
    ap (λ (o : Option Scalar). in_front o (scalars_from [] quoting.Outside ((scalar_text t ++ rest) ++ 93 ∷ []))) (scalar_read s is)
    ∙ ap (in_front (Some s)) (ap (scalars_from [] quoting.Outside) (append_assoc (scalar_text t) rest (93 ∷ [])) ∙ walk_scalar t (rest ++ 93 ∷ []) are.0 ∙ list_read t others are.0 are.1)

not_closed : (s : Scalar) (rest : List ℕ) → IsElement s → same_word (scalar_text s ++ rest) (codes "]") ≡ false
not_closed scalar.Nothing rest is = refl
not_closed (scalar.Truth true) rest is = refl
not_closed (scalar.Truth false) rest is = refl
not_closed (scalar.Int z) rest is = other_word (signed_decimal z) rest [] 93 (number_begins z is) (omega arith)
not_closed (scalar.Text text) rest is = refl

by_first : (bytes : List ℕ) → same_word bytes (codes "]") ≡ false → scalars_spelled bytes ≡ scalars_from [] quoting.Outside bytes
by_first bytes is = rw (is, scalars_spelled) refl

pub scalars_read : (scalars : List Scalar) → AllByRecursion IsElement scalars → scalars_spelled (scalars_text scalars ++ 93 ∷ []) ≡ Some scalars
scalars_read [] are = refl
scalars_read (s ∷ others) are =
    let rest : List ℕ = flat_map further_text others ++ 93 ∷ [] in
    ap scalars_spelled (append_assoc (scalar_text s) (flat_map further_text others) (93 ∷ []))
    ∙ by_first (scalar_text s ++ rest) (not_closed s rest are.0)
    ∙ walk_scalar s rest are.0
    ∙ list_read s others are.0 are.1
