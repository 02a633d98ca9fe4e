-- Words and integers in the text form.
use Rattle.std.proofs.Common.{◌≡◌, ℕ, ℤ, pos, negsuc, suc, ◌<◌, ◌≤◌, ◌^◌, List, [], ◌∷◌, ◌++◌, length, true, false, Result, Ok, refl, sym, ap, subst, ◌∙◌, arith}
use Rattle.std.specs.Prelude.{FitsSigned}
use Rattle.std.specs.Int.{w64, cast_signed, cast_unsigned}
use Rattle.std.specs.Fmt.{signed_decimal, decimal}
use Rattle.std.specs.Str.{IsUtf8, all_ascii_digits}
use Rattle.std.specs.Str.Parse.{ParsesSigned, digits_value}
use Rattle.std.proofs.lemmas.Str.{IsUtf8-from_ascii}
use Rattle.std.proofs.lemmas.Fmt.{IsAscii-signed, parse-signed_decimal, digits_decimal, decimal_nonempty}
use Rattle.std.proofs.lemmas.Str.Parse.{IsNumeralModel, numerals_by_value, tells_all_ascii_digits}
use Rattle.std.proofs.lemmas.Bool.Decides.{nat_tests}
use Rattle.std.proofs.lemmas.Int.{to_z-of_z}
use Rattle.std.proofs.lemmas.Slice.Eq.{bytes_eq-Decides}
use Rattle.std.specs.Str.{bytes_eq}
use Rattle.tf_values.proofs.ListLemmas.{differ}
use Rattle.tf_values.specs.Word.{is_mark, ends_here, is_word}

pub signed_utf8 : (word : List ℕ) (z : ℤ) → FitsSigned w64 z → word ≡ signed_decimal z → IsUtf8 word
signed_utf8 word z fits e = subst IsUtf8 (sym e) (IsUtf8-from_ascii (signed_decimal z) (IsAscii-signed z fits.sfits))

-- the text of an integer is read as this integer
pub signed_parses : {E : Type 0} (word text : List ℕ) (z : ℤ) (r : Result ℤ E) → FitsSigned w64 z → text ≡ word → word ≡ signed_decimal z → ParsesSigned w64 10 text r → r ≡ Ok z
signed_parses word text z r fits same e parses = parse-signed_decimal w64 z text r fits fits.sfits (same ∙ e) parses

-- an integer that isn't printed as the word is not the one that the word spells
pub signed_prints : (word shown printed : List ℕ) (z number : ℤ) → FitsSigned w64 z → word ≡ signed_decimal z → number ≡ z
    → printed ≡ signed_decimal (cast_signed w64 (cast_unsigned w64 number)) → shown ≡ printed → false ≡ bytes_eq shown word → ⊥
signed_prints word shown printed z number fits e same print show differs =
    let back : cast_signed w64 (cast_unsigned w64 number) ≡ z = ap (λ (x : ℤ). cast_signed w64 (cast_unsigned w64 x)) same ∙ to_z-of_z w64 z fits in
    let equal : shown ≡ word = show ∙ print ∙ ap signed_decimal back ∙ sym e in
    differ (bytes_eq shown word) (sym differs) ((bytes_eq-Decides shown word).1 equal)

digits_are_word : (ds : List ℕ) → all_ascii_digits ds ≡ true → is_word ds ≡ true
digits_are_word [] is = refl
digits_are_word (d ∷ ds) is =
    let rest : all_ascii_digits ds ≡ true = grind (arith, nat_tests) in
    let others : is_word ds ≡ true = digits_are_word ds rest in
    grind (arith, nat_tests)

-- the first byte of an integer's text
pub record BeginsNumber (text : List ℕ) : Type 0 where
  pub first : ℕ
  pub others : List ℕ
  pub is : text ≡ first ∷ others
  pub low : 45 ≤ first
  pub high : first ≤ 57

pub own_digits : IsNumeralModel (λ ds. all_ascii_digits ds ≡ true) (digits_value 10)
own_digits = numerals_by_value (λ ds. all_ascii_digits ds ≡ true) tells_all_ascii_digits

digits_begin : (ds : List ℕ) → all_ascii_digits ds ≡ true → 0 < length ds → BeginsNumber ds
digits_begin [] is some = absurd (omega arith)
digits_begin (d ∷ ds) is some = record { first = d; others = ds; is = refl; low = grind (arith, nat_tests); high = grind (arith, nat_tests) }

decimal_digits : (n : ℕ) → n < 2 ^ 64 → all_ascii_digits (decimal n) ≡ true
decimal_digits n fits = digits_decimal own_digits n fits

pub number_begins : (z : ℤ) → FitsSigned w64 z → BeginsNumber (signed_decimal z)
number_begins (pos n) fits = let small = fits.sfits in digits_begin (decimal n) (decimal_digits n (omega arith)) (decimal_nonempty n (omega arith))
number_begins (negsuc n) fits = record { first = 45; others = decimal (suc n); is = refl; low = omega arith; high = omega arith }

pub number_is_word : (z : ℤ) → FitsSigned w64 z → is_word (signed_decimal z) ≡ true
number_is_word (pos n) fits = let small = fits.sfits in digits_are_word (decimal n) (decimal_digits n (omega arith))
number_is_word (negsuc n) fits = let small = fits.sfits in digits_are_word (decimal (suc n)) (decimal_digits (suc n) (omega arith))

word_rest : (x : ℕ) (xs : List ℕ) → is_word (x ∷ xs) ≡ true → is_word xs ≡ true
word_rest x xs is = grind (arith, nat_tests)

no_mark : (x : ℕ) (xs rest : List ℕ) → is_word (x ∷ xs) ≡ true → ends_here (x ∷ xs ++ rest) ≡ true → ⊥
no_mark x xs rest is ends = differ (is_mark x) (grind (arith, nat_tests)) ends

-- a word ends where it ends
pub word_one : (u w a b : List ℕ) → is_word u ≡ true → is_word w ≡ true → ends_here a ≡ true → ends_here b ≡ true → u ++ a ≡ w ++ b → (u ≡ w) × (a ≡ b)
word_one [] [] a b iu iw ea eb e = (refl, e)
word_one [] (y ∷ w) a b iu iw ea eb e = absurd (no_mark y w b iw (ap ends_here (sym e) ∙ ea))
word_one (x ∷ u) [] a b iu iw ea eb e = absurd (no_mark x u a iu (ap ends_here e ∙ eb))
word_one (x ∷ u) (y ∷ w) a b iu iw ea eb e =
    let same_heads : x ≡ y = cc in
    let same_tails : u ++ a ≡ w ++ b = cc in
    let rest = word_one u w a b (word_rest x u iu) (word_rest y w iw) ea eb same_tails in
    (rw (same_heads, rest.0) refl, rest.1)
