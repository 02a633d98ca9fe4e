-- One to nine digits are always read as a number, and a text that isn't too long may stand in a command.
use Rattle.std.proofs.Common.{rules, ◌≡◌, ◌∙◌, ◌<◌, ◌≤◌, ◌^◌, ◌==◌, ◌&&◌, ℕ, Bool, true, false, not, sym, ap₂, arith, List, length, nat_le, Result, Ok, Err}
use Rattle.std.specs.List.{list_all}
use Rattle.std.specs.Str.{IsUtf8}
use Rattle.std.specs.Str.Parse.{ParsesUnsigned, digits_value}
use Rattle.std.proofs.lemmas.Str.{is_utf8-from_IsUtf8}
use Rattle.std.proofs.lemmas.Str.Parse.{IsDigitsTest, IsNumeralModel, digits_value_short, numerals_by_value, parse_gives}
use Rattle.tf_numbers.proofs.TruthLemmas.{and_true}
use Rattle.tf_words.specs.Verbs.{is_filled, is_digit}

abbrev AreDigits : List ℕ → Type 0
AreDigits digits = list_all is_digit digits ≡ true

tests_digits : IsDigitsTest AreDigits
tests_digits = search rules

numerals : IsNumeralModel AreDigits (digits_value 10)
numerals = numerals_by_value AreDigits tests_digits

-- no error comes of them
pub digits_read : {E : Type 0} (word : List ℕ) (answer : Result ℕ E) (error : E) → ParsesUnsigned 32 10 word answer → list_all is_digit word ≡ true → 0 < length word → length word ≤ 9 → answer ≡ Err error → ⊥
digits_read word answer error reads digits some short is =
    let small : digits_value 10 word < 10 ^ 9 = digits_value_short numerals word 9 digits short in
    let fits : digits_value 10 word < 2 ^ 32 = omega arith in
    let read : answer ≡ Ok (digits_value 10 word) = parse_gives numerals 32 word answer reads digits some fits in
    cc

-- a text is filled where it is neither empty nor too long
pub filled_text : (word : List ℕ) → IsUtf8 word → (length word == 0) ≡ false → nat_le (length word) 65536 ≡ is_filled word
filled_text word text some = sym (ap₂ (λ (empty valid : Bool). not empty && (nat_le (length word) 65536 && valid)) some (is_utf8-from_IsUtf8 word text) ∙ and_true (nat_le (length word) 65536))
