-- The text that shows two integers.
use Rattle.std.proofs.Common.{◌≡◌, ℤ, ◌≤◌, ◌++◌, length, true, codes, rules, arith}
use Rattle.std.specs.Prelude.{FitsSigned}
use Rattle.std.specs.Int.{w64}
use Rattle.std.specs.Fmt.{signed_decimal}
use Rattle.std.specs.Str.{IsAscii}
use Rattle.std.proofs.lemmas.Fmt.{IsAscii-signed, length_signed_le}
use Rattle.std.proofs.lemmas.Str.{IsUtf8-from_ascii, IsAscii-append}
use Rattle.std.proofs.lemmas.List.{length-append}
use Rattle.tf_values.specs.Text.{is_text}
use Rattle.tf_values.proofs.TextLemmas.{short_utf8}

pub revert_is_text : is_text (codes "revert") ≡ true
revert_is_text =
    let bytes = codes "revert" in
    let ascii : IsAscii bytes = search rules in
    let short : length bytes ≤ 65536 = search rules in
    short_utf8 bytes short (IsUtf8-from_ascii bytes ascii)

pub below_ascii : IsAscii (codes " below ")
below_ascii = search rules

pub below_is_text : (a b : ℤ) → FitsSigned w64 a → FitsSigned w64 b → is_text (signed_decimal a ++ codes " below " ++ signed_decimal b) ≡ true
below_is_text a b a_fits b_fits =
    let first = length_signed_le 19 a (omega (arith, a_fits.sfits)) a_fits.sfits in
    let second = length_signed_le 19 b (omega (arith, b_fits.sfits)) b_fits.sfits in
    let bytes = signed_decimal a ++ codes " below " ++ signed_decimal b in
    let whole = length-append (signed_decimal a ++ codes " below ") (signed_decimal b) in
    let prefix = length-append (signed_decimal a) (codes " below ") in
    let short : length bytes ≤ 65536 = omega arith in
    short_utf8 bytes short (IsUtf8-from_ascii bytes (IsAscii-append (signed_decimal a ++ codes " below ") (signed_decimal b) (IsAscii-append (signed_decimal a) (codes " below ") (IsAscii-signed a a_fits.sfits) below_ascii) (IsAscii-signed b b_fits.sfits)))
