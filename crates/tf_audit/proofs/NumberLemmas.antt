-- Numbers in a line: their digits are read as they are printed, and have no break.
use Rattle.std.proofs.Common.{◌≡◌, ℕ, ℤ, pos, negsuc, suc, ◌<◌, ◌^◌, List, [], ◌∷◌, true, Result, Ok, refl, sym, subst, ◌∙◌, arith}
use Rattle.std.specs.Prelude.{FitsSigned}
use Rattle.std.specs.Int.{w32, w64}
use Rattle.std.specs.Fmt.{decimal, signed_decimal}
use Rattle.std.specs.Str.{IsUtf8, all_ascii_digits}
use Rattle.std.specs.Str.Parse.{ParsesUnsigned, ParsesSigned}
use Rattle.std.proofs.lemmas.Str.{IsUtf8-from_ascii}
use Rattle.std.proofs.lemmas.Fmt.{IsAscii-decimal, IsAscii-signed, parse-decimal, parse-signed_decimal, digits_decimal}
use Rattle.std.proofs.lemmas.Bool.Decides.{nat_tests}
use lib.Signed.{mag}
use Rattle.tf_values.proofs.WordLemmas.{own_digits}
use Rattle.tf_audit.specs.Words.{is_unbroken}

pub number_utf8 : (word : List ℕ) (n : ℕ) → n < 2 ^ 64 → word ≡ decimal n → IsUtf8 word
number_utf8 word n fits e = subst IsUtf8 (sym e) (IsUtf8-from_ascii (decimal n) (IsAscii-decimal n fits))

pub number_parses : {E : Type 0} (word text : List ℕ) (n : ℕ) (r : Result ℕ E) → n < 2 ^ 64 → text ≡ word → word ≡ decimal n → ParsesUnsigned 64 10 text r → r ≡ Ok n
number_parses word text n r fits same e parses = parse-decimal 64 n text r fits fits (same ∙ e) parses

pub status_utf8 : (word : List ℕ) (z : ℤ) → FitsSigned w32 z → word ≡ signed_decimal z → IsUtf8 word
status_utf8 word z fits e = let small = fits.sfits in subst IsUtf8 (sym e) (IsUtf8-from_ascii (signed_decimal z) (IsAscii-signed z (omega arith)))

pub status_parses : {E : Type 0} (word text : List ℕ) (z : ℤ) (r : Result ℤ E) → FitsSigned w32 z → text ≡ word → word ≡ signed_decimal z → ParsesSigned w32 10 text r → r ≡ Ok z
status_parses word text z r fits same e parses = let small = fits.sfits in parse-signed_decimal w32 z text r fits (omega arith) (same ∙ e) parses

digits_unbroken : (ds : List ℕ) → all_ascii_digits ds ≡ true → is_unbroken ds ≡ true
digits_unbroken [] is = refl
digits_unbroken (d ∷ ds) is =
    let rest : all_ascii_digits ds ≡ true = grind (arith, nat_tests) in
    let others : is_unbroken ds ≡ true = digits_unbroken ds rest in
    grind (arith, nat_tests)

pub number_unbroken : (n : ℕ) → n < 2 ^ 64 → is_unbroken (decimal n) ≡ true
number_unbroken n fits = digits_unbroken (decimal n) (digits_decimal own_digits n fits)

-- an integer whose digits are few enough for 64 bits
unbroken_digits : (z : ℤ) → mag z < 2 ^ 63 → is_unbroken (signed_decimal z) ≡ true
unbroken_digits (pos n) small = number_unbroken n (omega arith)
unbroken_digits (negsuc n) small =
    let rest : is_unbroken (decimal (suc n)) ≡ true = number_unbroken (suc n) (omega arith) in
    grind (arith, nat_tests)

pub signed_unbroken : (z : ℤ) → FitsSigned w64 z → is_unbroken (signed_decimal z) ≡ true
signed_unbroken z fits = unbroken_digits z fits.sfits

pub status_unbroken : (z : ℤ) → FitsSigned w32 z → is_unbroken (signed_decimal z) ≡ true
status_unbroken z fits = let small = fits.sfits in unbroken_digits z (omega arith)
