-- A byte within quotes has one form, which begins no other's.
use Rattle.std.proofs.Common.{◌≡◌, ◌≢◌, ◌==◌, ℕ, ◌+◌, ◌-◌, ◌*◌, ◌/◌, ◌%◌, ◌<◌, ◌≤◌, ◌⊎◌, inl, inr, List, [], ◌∷◌, ◌++◌, Option, Some, None, Bool, true, false, ◌||◌, if◌then◌else◌, refl, sym, ap, subst, ◌∙◌, arith}
use Rattle.std.specs.Prelude.{nat_lt}
use Rattle.std.specs.List.{flat_map, AllByRecursion}
use Rattle.std.proofs.lemmas.Bool.{eqb-true}
use Rattle.std.proofs.lemmas.Bool.Decides.{nat_tests}
use Rattle.tf_values.specs.Value.{hexadecimal, quoted_byte}
use Rattle.tf_values.proofs.ListLemmas.{heads, tails}
use Rattle.tf_values.proofs.Codes.{IsCode, one_reading}

pub on_test : (P : Type 0) (test : Bool) → (test ≡ true → P) → (test ≡ false → P) → P
on_test P true holds fails = holds refl
on_test P false holds fails = fails refl

-- a byte below 32 or 127, that has no short form
pub record IsControl (b : ℕ) : Type 0 where
  pub low : (b < 32) ⊎ (b ≡ 127)
  pub no_feed : b ≢ 10
  pub no_tab : b ≢ 9

-- a byte that stands for itself
pub record IsPlain (b : ℕ) : Type 0 where
  pub above : 32 ≤ b
  pub no_quote : b ≢ 34
  pub no_backslash : b ≢ 92
  pub no_delete : b ≢ 127

abbrev pub digits_form : ℕ → List ℕ
digits_form b = 92 ∷ 117 ∷ 48 ∷ 48 ∷ hexadecimal (b / 16) ∷ hexadecimal (b % 16) ∷ []

control_from_test : (b : ℕ) → (nat_lt b 32 || (b == 127)) ≡ true → (b == 10) ≡ false → (b == 9) ≡ false → IsControl b
control_from_test b low feed tab = record { low = grind (arith, nat_tests); no_feed = grind (arith, nat_tests); no_tab = grind (arith, nat_tests) }

plain_from_test : (b : ℕ) → (nat_lt b 32 || (b == 127)) ≡ false → (b == 34) ≡ false → (b == 92) ≡ false → IsPlain b
plain_from_test b high quote backslash = record { above = grind (arith, nat_tests); no_quote = grind (arith, nat_tests); no_backslash = grind (arith, nat_tests); no_delete = grind (arith, nat_tests) }

-- the six ways in which a byte is written
pub quoted_cases : (P : ℕ → List ℕ → Type 0) → P 34 (92 ∷ 34 ∷ []) → P 92 (92 ∷ 92 ∷ []) → P 10 (92 ∷ 110 ∷ []) → P 9 (92 ∷ 116 ∷ [])
    → ((b : ℕ) → IsControl b → P b (digits_form b)) → ((b : ℕ) → IsPlain b → P b (b ∷ [])) → (b : ℕ) → P b (quoted_byte b)
quoted_cases P quote backslash feed tab control plain b =
    on_test (P b (quoted_byte b)) (b == 34) (λ e34. rw e34 (subst (λ (k : ℕ). P k (92 ∷ 34 ∷ [])) (sym (eqb-true b 34 e34)) quote))
    (λ n34. on_test (P b (quoted_byte b)) (b == 92) (λ e92. rw (n34, e92) (subst (λ (k : ℕ). P k (92 ∷ 92 ∷ [])) (sym (eqb-true b 92 e92)) backslash))
    (λ n92. on_test (P b (quoted_byte b)) (b == 10) (λ e10. rw (n34, n92, e10) (subst (λ (k : ℕ). P k (92 ∷ 110 ∷ [])) (sym (eqb-true b 10 e10)) feed))
    (λ n10. on_test (P b (quoted_byte b)) (b == 9) (λ e9. rw (n34, n92, n10, e9) (subst (λ (k : ℕ). P k (92 ∷ 116 ∷ [])) (sym (eqb-true b 9 e9)) tab))
    (λ n9. on_test (P b (quoted_byte b)) (nat_lt b 32 || (b == 127)) (λ low. rw (n34, n92, n10, n9, low) (control b (control_from_test b low n10 n9)))
    (λ high. rw (n34, n92, n10, n9, high) (plain b (plain_from_test b high n34 n92)))))))

abbrev nibble : ℕ → ℕ
nibble digit = if nat_lt digit 97 then digit - 48 else digit - 87

abbrev control_of : List ℕ → Option (ℕ × List ℕ)
control_of (zero_digit ∷ other ∷ high ∷ low ∷ rest) = Some (nibble high * 16 + nibble low, rest)
control_of rest = None

abbrev escape_of : List ℕ → Option (ℕ × List ℕ)
escape_of [] = None
escape_of (letter ∷ rest) = if letter == 110 then Some (10, rest) else if letter == 116 then Some (9, rest) else if letter == 117 then control_of rest else Some (letter, rest)

-- the byte that stands in front in its form, and what follows
abbrev unit_of : List ℕ → Option (ℕ × List ℕ)
unit_of [] = None
unit_of (first ∷ rest) = if first == 92 then escape_of rest else Some (first, rest)

pub nibble-hexadecimal : (n : ℕ) → n < 16 → nibble (hexadecimal n) ≡ n
nibble-hexadecimal n small = grind (arith, nat_tests)

control_small : (b : ℕ) → IsControl b → b < 128
control_small b is = elim is.low [ inl low ↦ omega arith | inr delete ↦ omega arith ]

not_backslash : (b : ℕ) → IsPlain b → (b == 92) ≡ false
not_backslash b is = grind (arith, nat_tests)

unit_again : (rest : List ℕ) (b : ℕ) → unit_of (quoted_byte b ++ rest) ≡ Some (b, rest)
unit_again rest = quoted_cases (λ b form. unit_of (form ++ rest) ≡ Some (b, rest)) refl refl refl refl
    (λ b is. let small = control_small b is in rw (nibble-hexadecimal (b / 16) (omega arith), nibble-hexadecimal (b % 16) (omega arith)) (ap (λ (k : ℕ). Some (k, rest)) (omega arith)))
    (λ b is. rw (not_backslash b is) refl)

pub quoted_one : (x y : ℕ) (a b : List ℕ) → quoted_byte x ++ a ≡ quoted_byte y ++ b → (x ≡ y) × (a ≡ b)
quoted_one x y a b e =
    let same : Some (x, a) ≡ Some (y, b) = sym (unit_again a x) ∙ ap unit_of e ∙ unit_again b y in
    let pairs : (x, a) ≡ (y, b) = cc in
    (ap (λ (p : ℕ × List ℕ). p.0) pairs, ap (λ (p : ℕ × List ℕ). p.1) pairs)

pub quoted_code : IsCode quoted_byte (λ _. Unit {0}) (λ _. Unit {0})
quoted_code = record { one = λ x y a b gx gy fa fb e. quoted_one x y a b e; forms_follow = λ x a gx. tt }

all_units : (xs : List ℕ) → AllByRecursion (λ _. Unit {0}) xs
all_units [] = tt
all_units (x ∷ xs) = (tt, all_units xs)

-- a closing quote is no form of a byte
quote_is_none : (after rest : List ℕ) (b : ℕ) → 34 ∷ after ≢ quoted_byte b ++ rest
quote_is_none after rest = quoted_cases (λ b form. 34 ∷ after ≢ form ++ rest) (λ e. absurd (omega (arith, heads 34 92 after (34 ∷ rest) e))) (λ e. absurd (omega (arith, heads 34 92 after (92 ∷ rest) e)))
    (λ e. absurd (omega (arith, heads 34 92 after (110 ∷ rest) e))) (λ e. absurd (omega (arith, heads 34 92 after (116 ∷ rest) e)))
    (λ b is e. absurd (omega (arith, heads 34 92 after (117 ∷ 48 ∷ 48 ∷ hexadecimal (b / 16) ∷ hexadecimal (b % 16) ∷ rest) e)))
    (λ b is e. is.no_quote (sym (heads 34 b after rest e)))

-- one reading of a text up to its closing quote
pub text_one : (text other rest after : List ℕ) → ((b : ℕ) (r : List ℕ) → rest ≢ quoted_byte b ++ r) → flat_map quoted_byte text ++ rest ≡ flat_map quoted_byte other ++ 34 ∷ after → (text ≡ other) × (rest ≡ 34 ∷ after)
text_one text other rest after none e =
    one_reading quoted_byte (λ _. Unit {0}) (λ _. Unit {0}) quoted_code text other rest (34 ∷ after) (all_units text) (all_units other) tt tt (λ b r good follows. none b r) (λ b r good follows. quote_is_none after r b) e

pub quoted_text_one : (text other a b : List ℕ) → flat_map quoted_byte text ++ 34 ∷ a ≡ flat_map quoted_byte other ++ 34 ∷ b → (text ≡ other) × (a ≡ b)
quoted_text_one text other a b e = let same = text_one text other (34 ∷ a) b (λ c r. quote_is_none a r c) e in (same.0, tails 34 34 a b same.1)

-- what is read up to neither a byte's form nor a closing quote is no text
pub no_text : (text rest bytes : List ℕ) → bytes ≡ flat_map quoted_byte text ++ rest → ((b : ℕ) (r : List ℕ) → rest ≢ quoted_byte b ++ r) → ((r : List ℕ) → rest ≢ 34 ∷ r)
    → (other after : List ℕ) → bytes ≢ flat_map quoted_byte other ++ 34 ∷ after
no_text text rest bytes read none unclosed other after e = unclosed after (text_one text other rest after none (sym read ∙ e)).1
