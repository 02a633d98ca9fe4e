-- What is read as a text in quotes is the form of this text.
use Rattle.std.proofs.Common.{◌≡◌, ◌≢◌, ℕ, ◌+◌, ◌*◌, ◌/◌, ◌%◌, ◌<◌, inl, inr, List, [], ◌∷◌, ◌++◌, Option, Some, None, Bool, true, false, not, ◌&&◌, ◌||◌, ◌==◌, option_map, refl, sym, ap, subst, ◌∙◌, arith}
use Rattle.std.specs.Prelude.{nat_lt}
use Rattle.std.specs.List.{flat_map}
use Rattle.std.proofs.lemmas.Bool.{eqb-true}
use Rattle.std.proofs.lemmas.Bool.Decides.{nat_tests}
use Rattle.tf_numbers.proofs.TruthLemmas.{and_first, and_second, or_either}
use Rattle.tf_values.specs.Value.{hexadecimal, quoted_byte}
use Rattle.tf_words.specs.declared.quotes.Inside.{Inside}
use Rattle.tf_words.specs.declared.quotes.Inside.TheVariants as at
use Rattle.tf_words.specs.Verbs.{nibble, is_hexadecimal, are_digits, is_plain, is_short, step, emitted, text_from}
use Rattle.tf_values.proofs.QuoteLemmas.{on_test}

-- what of a byte's form stands before the reader
abbrev pub begun : Inside → List ℕ
begun at.Bytes = []
begun at.Escape = 92 ∷ []
begun at.Unicode = 92 ∷ 117 ∷ []
begun at.Zero = 92 ∷ 117 ∷ 48 ∷ []
begun at.Zeros = 92 ∷ 117 ∷ 48 ∷ 48 ∷ []
begun (at.Digit high) = 92 ∷ 117 ∷ 48 ∷ 48 ∷ high ∷ []
begun at.Closed = []

-- the text has this form from there on
abbrev pub Goes : Inside → List ℕ → List ℕ → Type 0
Goes at.Closed bytes text = (bytes ≡ []) × (text ≡ [])
Goes place bytes text = begun place ++ bytes ≡ flat_map quoted_byte text ++ 34 ∷ []

-- the byte that two digits are has these digits
abbrev HasDigits : ℕ → ℕ → Type 0
HasDigits high low = quoted_byte (nibble high * 16 + nibble low) ≡ 92 ∷ 117 ∷ 48 ∷ 48 ∷ high ∷ low ∷ []

control_form : (b : ℕ) → (b == 34) ≡ false → (b == 92) ≡ false → (b == 10) ≡ false → (b == 9) ≡ false → (nat_lt b 32 || b == 127) ≡ true → quoted_byte b ≡ 92 ∷ 117 ∷ 48 ∷ 48 ∷ hexadecimal (b / 16) ∷ hexadecimal (b % 16) ∷ []
control_form b quote slash feed tab low = rw (quote, slash, feed, tab, low) refl

nibble_small : (low : ℕ) → is_hexadecimal low ≡ true → nibble low < 16
nibble_small low is = grind (arith, nat_tests)

nibble_back : (low : ℕ) → is_hexadecimal low ≡ true → hexadecimal (nibble low) ≡ low
nibble_back low is = grind (arith, nat_tests)

zero_digits : (low : ℕ) → is_hexadecimal low ≡ true → (low == 57) ≡ false → (low == 97) ≡ false → HasDigits 48 low
zero_digits low is nine ten =
    let small : nibble low < 16 = nibble_small low is in
    let back : hexadecimal (nibble low) ≡ low = nibble_back low is in
    let no_tab : nibble low ≢ 9 = λ e. let same : low ≡ 57 = sym back ∙ ap hexadecimal e in let no : (low == 57) ≡ true = grind (arith, nat_tests) in cc in
    let no_feed : nibble low ≢ 10 = λ e. let same : low ≡ 97 = sym back ∙ ap hexadecimal e in let no : (low == 97) ≡ true = grind (arith, nat_tests) in cc in
    zero_by low (nibble low) small back no_tab no_feed
  where
    zero_by : (low n : ℕ) → n < 16 → hexadecimal n ≡ low → n ≢ 9 → n ≢ 10 → quoted_byte (0 * 16 + n) ≡ 92 ∷ 117 ∷ 48 ∷ 48 ∷ 48 ∷ low ∷ []
    zero_by low n small back no_tab no_feed =
        let sum : 0 * 16 + n ≡ n = omega arith in
        let high : n / 16 ≡ 0 = omega arith in
        let same : n % 16 ≡ n = omega arith in
        let quote : (n == 34) ≡ false = grind (arith, nat_tests) in
        let slash : (n == 92) ≡ false = grind (arith, nat_tests) in
        let feed : (n == 10) ≡ false = grind (arith, nat_tests) in
        let tab : (n == 9) ≡ false = grind (arith, nat_tests) in
        let control : (nat_lt n 32 || n == 127) ≡ true = grind (arith, nat_tests) in
        rw sum (control_form n quote slash feed tab control ∙ rw (high, same, back) refl)

one_digits : (low : ℕ) → is_hexadecimal low ≡ true → HasDigits 49 low
one_digits low is = one_by low (nibble low) (nibble_small low is) (nibble_back low is)
  where
    one_by : (low n : ℕ) → n < 16 → hexadecimal n ≡ low → quoted_byte (1 * 16 + n) ≡ 92 ∷ 117 ∷ 48 ∷ 48 ∷ 49 ∷ low ∷ []
    one_by low n small back =
        let sum : 1 * 16 + n ≡ 16 + n = omega arith in
        let high : (16 + n) / 16 ≡ 1 = omega arith in
        let same : (16 + n) % 16 ≡ n = omega arith in
        let quote : (16 + n == 34) ≡ false = grind (arith, nat_tests) in
        let slash : (16 + n == 92) ≡ false = grind (arith, nat_tests) in
        let feed : (16 + n == 10) ≡ false = grind (arith, nat_tests) in
        let tab : (16 + n == 9) ≡ false = grind (arith, nat_tests) in
        let control : (nat_lt (16 + n) 32 || 16 + n == 127) ≡ true = grind (arith, nat_tests) in
        rw sum (control_form (16 + n) quote slash feed tab control ∙ rw (high, same, back) refl)

neither : (a b : Bool) → not (a || b) ≡ true → (a ≡ false) × (b ≡ false)
neither true b is = absurd (cc)
neither false true is = absurd (cc)
neither false false is = (refl, refl)

zero_case : (low : ℕ) → (is_hexadecimal low && not (low == 57 || low == 97)) ≡ true → HasDigits 48 low
zero_case low are =
    let others = neither (low == 57) (low == 97) (and_second (is_hexadecimal low) (not (low == 57 || low == 97)) are) in
    zero_digits low (and_first (is_hexadecimal low) (not (low == 57 || low == 97)) are) others.0 others.1

seven_case : (high low : ℕ) → (high == 55 && low == 102) ≡ true → HasDigits high low
seven_case high low are =
    let seven : high ≡ 55 = eqb-true high 55 (and_first (high == 55) (low == 102) are) in
    let last : low ≡ 102 = eqb-true low 102 (and_second (high == 55) (low == 102) are) in
    subst (λ (h : ℕ). HasDigits h low) (sym seven) (subst (λ (l : ℕ). HasDigits 55 l) (sym last) refl)

have_digits : (high low : ℕ) → are_digits high low ≡ true → HasDigits high low
have_digits high low are =
    on_test (HasDigits high low) (high == 48)
    (λ zero. subst (λ (h : ℕ). HasDigits h low) (sym (eqb-true high 48 zero)) (zero_case low (rw zero at are)))
    (λ no_zero. on_test (HasDigits high low) (high == 49)
    (λ one. subst (λ (h : ℕ). HasDigits h low) (sym (eqb-true high 49 one)) (one_digits low (rw (no_zero, one) at are)))
    (λ no_one. seven_case high low (rw (no_zero, no_one) at are)))

plain_form : (b : ℕ) → (b == 34) ≡ false → (b == 92) ≡ false → is_plain b ≡ true → quoted_byte b ≡ b ∷ []
plain_form b quote slash plain =
    let feed : (b == 10) ≡ false = grind (arith, nat_tests) in
    let tab : (b == 9) ≡ false = grind (arith, nat_tests) in
    let control : (nat_lt b 32 || b == 127) ≡ false = grind (arith, nat_tests) in
    rw (quote, slash, feed, tab, control) refl

emitted_plain : (byte : ℕ) → (byte == 34) ≡ false → (byte == 92) ≡ false → emitted at.Bytes byte ≡ byte ∷ []
emitted_plain byte quote slash = rw (quote, slash) refl

at_after : (place after : Inside) (bytes text : List ℕ) → Some place ≡ Some after → Goes after bytes text → Goes place bytes text
at_after place after bytes text is goes = let same : place ≡ after = cc in subst (λ (p : Inside). Goes p bytes text) (sym same) goes

closes : (byte : ℕ) (bytes text : List ℕ) → byte ≡ 34 → Goes at.Closed bytes text → Goes at.Bytes (byte ∷ bytes) (emitted at.Bytes byte ++ text)
closes byte bytes text is goes = rw (is, goes.0, goes.1) refl

escapes : (byte : ℕ) (bytes text : List ℕ) → byte ≡ 92 → Goes at.Escape bytes text → Goes at.Bytes (byte ∷ bytes) (emitted at.Bytes byte ++ text)
escapes byte bytes text is goes = rw is goes

stays : (byte : ℕ) (bytes text : List ℕ) → (byte == 34) ≡ false → (byte == 92) ≡ false → is_plain byte ≡ true → Goes at.Bytes bytes text → Goes at.Bytes (byte ∷ bytes) (emitted at.Bytes byte ++ text)
stays byte bytes text quote slash plain goes =
    rw (emitted_plain byte quote slash, plain_form byte quote slash plain) (ap (λ (rest : List ℕ). byte ∷ rest) goes)

nowhere : (P : Type 0) (after : Inside) → None ≡ Some after → P
nowhere P after is = absurd (cc)

from_bytes : (after : Inside) (byte : ℕ) (bytes text : List ℕ) → step at.Bytes byte ≡ Some after → Goes after bytes text → Goes at.Bytes (byte ∷ bytes) (emitted at.Bytes byte ++ text)
from_bytes after byte bytes text is goes =
    on_test (Goes at.Bytes (byte ∷ bytes) (emitted at.Bytes byte ++ text)) (byte == 34)
    (λ quote. closes byte bytes text (eqb-true byte 34 quote) (at_after at.Closed after bytes text (rw quote at is) goes))
    (λ no_quote. on_test (Goes at.Bytes (byte ∷ bytes) (emitted at.Bytes byte ++ text)) (byte == 92)
    (λ slash. escapes byte bytes text (eqb-true byte 92 slash) (at_after at.Escape after bytes text (rw (no_quote, slash) at is) goes))
    (λ no_slash. on_test (Goes at.Bytes (byte ∷ bytes) (emitted at.Bytes byte ++ text)) (is_plain byte)
    (λ plain. stays byte bytes text no_quote no_slash plain (at_after at.Bytes after bytes text (rw (no_quote, no_slash, plain) at is) goes))
    (λ other. nowhere (Goes at.Bytes (byte ∷ bytes) (emitted at.Bytes byte ++ text)) after (rw (no_quote, no_slash, other) at is))))

unicode : (byte : ℕ) (bytes text : List ℕ) → byte ≡ 117 → Goes at.Unicode bytes text → Goes at.Escape (byte ∷ bytes) (emitted at.Escape byte ++ text)
unicode byte bytes text is goes = rw is goes

short_form : (byte : ℕ) (bytes text : List ℕ) → is_short byte ≡ true → Goes at.Bytes bytes text → Goes at.Escape (byte ∷ bytes) (emitted at.Escape byte ++ text)
short_form byte bytes text short goes =
    elim (or_either (byte == 34 || byte == 92) (byte == 110 || byte == 116) short) [
      | inl low ↦ elim (or_either (byte == 34) (byte == 92) low) [
        | inl quote ↦ rw (eqb-true byte 34 quote) (ap (λ (rest : List ℕ). 92 ∷ 34 ∷ rest) goes)
        | inr slash ↦ rw (eqb-true byte 92 slash) (ap (λ (rest : List ℕ). 92 ∷ 92 ∷ rest) goes)
      ]
      | inr letter ↦ elim (or_either (byte == 110) (byte == 116) letter) [
        | inl feed ↦ rw (eqb-true byte 110 feed) (ap (λ (rest : List ℕ). 92 ∷ 110 ∷ rest) goes)
        | inr tab ↦ rw (eqb-true byte 116 tab) (ap (λ (rest : List ℕ). 92 ∷ 116 ∷ rest) goes)
      ]
    ]

from_escape : (after : Inside) (byte : ℕ) (bytes text : List ℕ) → step at.Escape byte ≡ Some after → Goes after bytes text → Goes at.Escape (byte ∷ bytes) (emitted at.Escape byte ++ text)
from_escape after byte bytes text is goes =
    on_test (Goes at.Escape (byte ∷ bytes) (emitted at.Escape byte ++ text)) (byte == 117)
    (λ letter. unicode byte bytes text (eqb-true byte 117 letter) (at_after at.Unicode after bytes text (rw letter at is) goes))
    (λ no_letter. on_test (Goes at.Escape (byte ∷ bytes) (emitted at.Escape byte ++ text)) (is_short byte)
    (λ short. short_form byte bytes text short (at_after at.Bytes after bytes text (rw (no_letter, short) at is) goes))
    (λ other. nowhere (Goes at.Escape (byte ∷ bytes) (emitted at.Escape byte ++ text)) after (rw (no_letter, other) at is)))

step_goes : (place after : Inside) (byte : ℕ) (bytes text : List ℕ) → step place byte ≡ Some after → Goes after bytes text → Goes place (byte ∷ bytes) (emitted place byte ++ text)
step_goes at.Bytes after byte bytes text is goes = from_bytes after byte bytes text is goes
step_goes at.Escape after byte bytes text is goes = from_escape after byte bytes text is goes
step_goes at.Unicode after byte bytes text is goes =
    on_test (Goes at.Unicode (byte ∷ bytes) text) (byte == 48)
    (λ zero. rw (eqb-true byte 48 zero) (at_after at.Zero after bytes text (rw zero at is) goes))
    (λ other. nowhere (Goes at.Unicode (byte ∷ bytes) text) after (rw other at is))
step_goes at.Zero after byte bytes text is goes =
    on_test (Goes at.Zero (byte ∷ bytes) text) (byte == 48)
    (λ zero. rw (eqb-true byte 48 zero) (at_after at.Zeros after bytes text (rw zero at is) goes))
    (λ other. nowhere (Goes at.Zero (byte ∷ bytes) text) after (rw other at is))
step_goes at.Zeros after byte bytes text is goes = at_after (at.Digit byte) after bytes text is goes
step_goes (at.Digit high) after byte bytes text is goes =
    on_test (Goes (at.Digit high) (byte ∷ bytes) (emitted (at.Digit high) byte ++ text)) (are_digits high byte)
    (λ are. rw (have_digits high byte are) (ap (λ (rest : List ℕ). 92 ∷ 117 ∷ 48 ∷ 48 ∷ high ∷ byte ∷ rest) (at_after at.Bytes after bytes text (rw are at is) goes)))
    (λ other. nowhere (Goes (at.Digit high) (byte ∷ bytes) (emitted (at.Digit high) byte ++ text)) after (rw other at is))
step_goes at.Closed after byte bytes text is goes = absurd (cc)

-- the text of which a part is read
record Read (o : Option (List ℕ)) (front text : List ℕ) : Type 0 where
  rest : List ℕ
  is : o ≡ Some rest
  whole : front ++ rest ≡ text

read_by : (o : Option (List ℕ)) (front text : List ℕ) → option_map (λ (rest : List ℕ). front ++ rest) o ≡ Some text → Read o front text
read_by None front text is = absurd (cc)
read_by (Some rest) front text is = let same : front ++ rest ≡ text = cc in record { rest = rest; is = refl; whole = same }

goes_by : (o : Option Inside) (place : Inside) (byte : ℕ) (bytes text : List ℕ) → step place byte ≡ o
    → elim o [ None ↦ None | Some after ↦ option_map (λ (rest : List ℕ). emitted place byte ++ rest) (text_from after bytes) ] ≡ Some text
    → ((after : Inside) (rest : List ℕ) → text_from after bytes ≡ Some rest → Goes after bytes rest) → Goes place (byte ∷ bytes) text
goes_by None place byte bytes text is read on = absurd (cc)
goes_by (Some after) place byte bytes text is read on =
    let part = read_by (text_from after bytes) (emitted place byte) text read in
    subst (Goes place (byte ∷ bytes)) part.whole (step_goes place after byte bytes part.rest is (on after part.rest part.is))

-- what is read from a place on has its form from there
pub text_goes : (bytes : List ℕ) (place : Inside) (text : List ℕ) → text_from place bytes ≡ Some text → Goes place bytes text
text_goes [] at.Closed text is = let same : [] ≡ text = cc in (refl, sym same)
text_goes [] at.Bytes text is = absurd (cc)
text_goes [] at.Escape text is = absurd (cc)
text_goes [] at.Unicode text is = absurd (cc)
text_goes [] at.Zero text is = absurd (cc)
text_goes [] at.Zeros text is = absurd (cc)
text_goes [] (at.Digit high) text is = absurd (cc)
text_goes (byte ∷ bytes) place text is = goes_by (step place byte) place byte bytes text refl is (λ after rest. text_goes bytes after rest)
