-- The names of the generated flow.
use Rattle.std.proofs.Common.{◌≡◌, ◌≢◌, ℕ, ◌<◌, ◌≤◌, ◌^◌, List, [], ◌∷◌, length, true, false, refl, arith}
use Rattle.std.specs.List.{list_all}
use Rattle.std.specs.Fmt.{decimal}
use Rattle.std.specs.Str.{all_ascii_digits}
use Rattle.std.specs.Cmp.Lexicographic.{bytes_decides}
use Rattle.std.proofs.lemmas.Fmt.{digits_decimal, length-decimal-le, decimal_injective}
use Rattle.std.proofs.lemmas.Bool.Decides.{nat_tests}
use Rattle.std.proofs.lemmas.Grind.{common_steps}
use Rattle.tf_flow.specs.Tree.{same_name}
use Rattle.tf_numbers.proofs.TruthLemmas.{never_true}
use Rattle.tf_values.specs.Text.{is_name, begins_name, stands_in_name}
use Rattle.tf_values.proofs.ListLemmas.{tails}
use Rattle.tf_values.proofs.WordLemmas.{own_digits}

digits_stand : (ds : List ℕ) → all_ascii_digits ds ≡ true → list_all stands_in_name ds ≡ true
digits_stand [] is = refl
digits_stand (d ∷ ds) is =
    let rest : all_ascii_digits ds ≡ true = grind (arith, nat_tests) in
    let others : list_all stands_in_name ds ≡ true = digits_stand ds rest in
    grind (arith, nat_tests)

name_of_both : (letter : ℕ) (ds : List ℕ) → begins_name letter ≡ true → length ds < 64 → list_all stands_in_name ds ≡ true → is_name (letter ∷ ds) ≡ true
name_of_both letter ds begins short stand = grind (arith, common_steps)

-- a letter and a number in decimal digits is a name
pub numbered_is_name : (letter n : ℕ) → begins_name letter ≡ true → n < 2 ^ 16 → is_name (letter ∷ decimal n) ≡ true
numbered_is_name letter n begins fits =
    let short : length (decimal n) ≤ 5 = length-decimal-le 5 n (omega arith) (omega arith) (omega arith) in
    name_of_both letter (decimal n) begins (omega (arith, short)) (digits_stand (decimal n) (digits_decimal own_digits n (omega arith)))

-- a number below a thousand has at most three digits
pub three_digits : (n : ℕ) → n < 1000 → length (decimal n) ≤ 3
three_digits n small = length-decimal-le 3 n (omega arith) (omega arith) (omega arith)

-- two numbers have two names
pub other_number : (letter m n : ℕ) → m < 2 ^ 64 → n < 2 ^ 64 → m ≢ n → same_name (letter ∷ decimal m) (letter ∷ decimal n) ≡ false
other_number letter m n fits fits_too differ =
    never_true (same_name (letter ∷ decimal m) (letter ∷ decimal n))
    (λ same. differ (decimal_injective m n fits fits_too (tails letter letter (decimal m) (decimal n) ((bytes_decides (letter ∷ decimal m) (letter ∷ decimal n)).0 same))))
