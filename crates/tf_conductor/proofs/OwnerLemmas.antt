-- Owners that are named by their numbers are names, and different.
use Rattle.std.proofs.Common.{◌≡◌, ◌⊎◌, ◌<◌, ◌≤◌, ℕ, zero, suc, Bool, true, false, List, [], ◌∷◌, ◌++◌, length, Some, refl, sym, ap, ◌∙◌, inl, inr, arith, length-append}
use Rattle.std.specs.Prelude.{◌&&◌, ◌||◌, ◌==◌, nat_lt, slice_get}
use Rattle.std.specs.Str.{all_ascii_digits}
use Rattle.std.specs.Fmt.{decimal}
use Rattle.std.specs.List.{list_all}
use Rattle.std.proofs.lemmas.Bool.{cases_lt, lt-ltb}
use Rattle.std.proofs.lemmas.Fmt.{decimal_injective, digits_decimal, length-decimal-le}
use Rattle.std.proofs.lemmas.Bool.Decides.{nat_tests}
use Rattle.std.proofs.lemmas.List.{append_cancel_left}
use Rattle.std.proofs.lemmas.List.Folds.{list_all-append}
use Rattle.std.proofs.lemmas.Option.{slice_get_within}
use Rattle.tf_values.specs.Text.{is_between, is_name, begins_name, stands_in_name}
use Rattle.tf_values.proofs.WordLemmas.{own_digits}
use Rattle.tf_conductor.specs.Rounds.{AreDifferent, AreNamedBy, owner_name}

-- ---- digits

-- they stand in a name
digits_stand : (ds : List ℕ) → all_ascii_digits ds ≡ true → list_all stands_in_name ds ≡ true
digits_stand [] is = refl
digits_stand (d ∷ ds) is =
    let rest : all_ascii_digits ds ≡ true = grind (arith, nat_tests) in
    let others : list_all stands_in_name ds ≡ true = digits_stand ds rest in
    let digit : is_between 48 57 d ≡ true = grind (arith, nat_tests) in
    let stands : stands_in_name d ≡ true = ap (λ (b : Bool). ((begins_name d || b) || (d == 45)) || (d == 46)) digit ∙ by (begins_name d) (d == 45) (d == 46) in
    ap (λ (b : Bool). b && list_all stands_in_name ds) stands ∙ others
  where
    by : (a b c : Bool) → (((a || true) || b) || c) ≡ true
    by true b c = refl
    by false b c = refl

-- ---- an owner

three_true : (a b c : Bool) → ((a && b) && c) ≡ true → (a ≡ true) × (b ≡ true) × (c ≡ true)
three_true true true c is = (refl, refl, is)
three_true true false c is = absurd (cc)
three_true false b c is = absurd (cc)

-- it is a name
pub owner_is_name : (word : List ℕ) (n : ℕ) → is_name word ≡ true → length word ≤ 61 → n < 64 → is_name (owner_name word n) ≡ true
unfolding owner_name
owner_is_name [] n named short few = absurd (cc)
owner_is_name (first ∷ others) n named short few =
    let t = three_true (begins_name first) (nat_lt (length others) 64) (list_all stands_in_name others) named in
    let digits : list_all stands_in_name (decimal n) ≡ true = digits_stand (decimal n) (digits_decimal own_digits n (omega (arith, few))) in
    let two : length (decimal n) ≤ 2 = length-decimal-le 2 n (omega arith) (omega (arith, few)) (omega (arith, few)) in
    let long : length (others ++ 45 ∷ decimal n) < 64 = omega (arith, length-append others (45 ∷ decimal n), two, short) in
    let stand : list_all stands_in_name (others ++ 45 ∷ decimal n) ≡ true
    = list_all-append stands_in_name others (45 ∷ decimal n) ∙ ap (λ (b : Bool). b && list_all stands_in_name (decimal n)) t.2 ∙ digits in
    ap (λ (b : Bool). (b && nat_lt (length (others ++ 45 ∷ decimal n)) 64) && list_all stands_in_name (others ++ 45 ∷ decimal n)) t.0
    ∙ ap (λ (b : Bool). b && list_all stands_in_name (others ++ 45 ∷ decimal n)) (lt-ltb (length (others ++ 45 ∷ decimal n)) 64 long)
    ∙ stand

-- ---- all owners

-- one more, at the next place
pub named_more : (word : List ℕ) (owners : List (List ℕ)) (n : ℕ) (owner : List ℕ) → AreNamedBy word owners → length owners ≡ n → owner ≡ owner_name word n → AreNamedBy word (owners ++ owner ∷ [])
named_more word owners n owner named long is i other at = by (cases_lt i (length owners))
  where
    before : (xs : List (List ℕ)) (k : ℕ) → k < length xs → slice_get (xs ++ owner ∷ []) k ≡ slice_get xs k
    before [] k below = absurd (omega (arith, below))
    before (x ∷ xs) zero below = refl
    before (x ∷ xs) (suc k) below = before xs k (omega (arith, below))

    last : (xs : List (List ℕ)) (k : ℕ) → k ≡ length xs → slice_get (xs ++ owner ∷ []) k ≡ Some owner
    last [] k same = ap (slice_get (owner ∷ [])) same
    last (x ∷ xs) zero same = absurd (omega (arith, same))
    last (x ∷ xs) (suc k) same = last xs k (omega (arith, same))

    by : (i < length owners) ⊎ (length owners ≤ i) → other ≡ owner_name word i
    by (inl below) = named i other (sym (before owners i below) ∙ at)
    by (inr past) =
        let within : i < length (owners ++ owner ∷ []) = slice_get_within (owners ++ owner ∷ []) i other at in
        let place : i ≡ length owners = omega (arith, past, within, length-append owners (owner ∷ [])) in
        let same : Some owner ≡ Some other = sym (last owners i place) ∙ at in
        let one : owner ≡ other = cc in
        sym one ∙ is ∙ ap (owner_name word) (sym long ∙ sym place)

-- they are different
pub named_different : (word : List ℕ) (owners : List (List ℕ)) → length owners ≤ 64 → AreNamedBy word owners → AreDifferent owners
unfolding owner_name
named_different word owners few named i j owner first second =
    let same : word ++ 45 ∷ decimal i ≡ word ++ 45 ∷ decimal j = sym (named i owner first) ∙ named j owner second in
    let behind : 45 ∷ decimal i ≡ 45 ∷ decimal j = append_cancel_left word (45 ∷ decimal i) (45 ∷ decimal j) same in
    let digits : decimal i ≡ decimal j = cc in
    decimal_injective i j (omega (arith, few, slice_get_within owners i owner first)) (omega (arith, few, slice_get_within owners j owner second)) digits
