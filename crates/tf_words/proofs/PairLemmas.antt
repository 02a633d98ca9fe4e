-- What stands behind a byte of ASCII in a text is a text, and a value takes the place of the earlier one of its name.
use Rattle.std.proofs.Common.{◌≡◌, ℕ, suc, ◌+◌, ◌<◌, List, [], ◌∷◌, ◌++◌, length, set, Some, None, Bool, true, false, cond, not, nat_lt, nat_le, get_or, drop, if◌then◌else◌, refl, ap, subst, arith, length-drop}
use Rattle.std.specs.List.{position_or_len}
use Rattle.std.proofs.lemmas.Bool.Decides.{nat_tests}
use Rattle.std.specs.Str.{IsUtf8, IsCharBoundary, is_utf8}
use Rattle.std.proofs.lemmas.Str.{IsUtf8-from_is_utf8, is_utf8-from_IsUtf8, IsUtf8-drop, IsCharBoundary-after_ascii}
use Rattle.tf_numbers.proofs.TruthLemmas.{and_first, and_second}
use Rattle.tf_values.specs.Text.{is_text}
use Rattle.tf_flow.specs.declared.atoms.Bind.{Bind}
use Rattle.tf_words.specs.Verbs.{same_word, put, place_of}

short_behind : (word : List ℕ) (i : ℕ) → nat_le (length word) 65536 ≡ true → nat_le (length (drop (i + 1) word)) 65536 ≡ true
short_behind word i short = grind (arith, nat_tests, length-drop (i + 1) word)

pub text_behind : (word : List ℕ) (i : ℕ) → is_text word ≡ true → i < length word → get_or word i 0 ≡ 61 → is_text (drop (i + 1) word) ≡ true
text_behind word i text within equals =
    let utf8 : IsUtf8 word = IsUtf8-from_is_utf8 word (and_second (nat_le (length word) 65536) (is_utf8 word) text) in
    let begins : IsCharBoundary word (i + 1) = IsCharBoundary-after_ascii word i utf8 within (omega arith) in
    let rest : is_utf8 (drop (i + 1) word) ≡ true = is_utf8-from_IsUtf8 (drop (i + 1) word) (IsUtf8-drop word (i + 1) utf8 begins) in
    let short : nat_le (length (drop (i + 1) word)) 65536 ≡ true = short_behind word i (and_first (nat_le (length word) 65536) (is_utf8 word) text) in
    rw (short, rest) refl

abbrev place : Bind → List Bind → ℕ
place bind sets = position_or_len (λ (other : Bind). same_word other.symbol bind.symbol) sets

put_step : (test : Bool) (first bind : Bind) (others : List Bind) (n : ℕ) → (n < length others → set others n bind ≡ put bind others) → cond (not test) (1 + n) 0 < suc (length others)
    → set (first ∷ others) (cond (not test) (1 + n) 0) bind ≡ (if test then bind ∷ others else first ∷ put bind others)
put_step true first bind others n on within = refl
put_step false first bind others n on within =
    let next : 1 + n ≡ suc n = omega arith in
    rw next (ap (λ (rest : List Bind). first ∷ rest) (on (omega arith)))

put_at : (bind : Bind) (sets : List Bind) → place bind sets < length sets → set sets (place bind sets) bind ≡ put bind sets
put_at bind [] within = absurd (omega arith)
put_at bind (first ∷ others) within = put_step (same_word first.symbol bind.symbol) first bind others (place bind others) (put_at bind others) within

push_step : (test : Bool) (first bind : Bind) (others : List Bind) (n : ℕ) → ((n < length others → ⊥) → others ++ bind ∷ [] ≡ put bind others) → (cond (not test) (1 + n) 0 < suc (length others) → ⊥)
    → first ∷ others ++ bind ∷ [] ≡ (if test then bind ∷ others else first ∷ put bind others)
push_step true first bind others n on past = absurd (past (omega arith))
push_step false first bind others n on past = ap (λ (rest : List Bind). first ∷ rest) (on (λ within. past (omega arith)))

put_behind : (bind : Bind) (sets : List Bind) → (place bind sets < length sets → ⊥) → sets ++ bind ∷ [] ≡ put bind sets
put_behind bind [] past = refl
put_behind bind (first ∷ others) past = push_step (same_word first.symbol bind.symbol) first bind others (place bind others) (put_behind bind others) past

in_place_by : (test : Bool) (n length i : ℕ) → (test ≡ true → n < length) → cond test (Some n) None ≡ Some i → (n < length) × (n ≡ i)
in_place_by true n length i within is = let same : n ≡ i = cc in (within refl, same)
in_place_by false n length i within is = absurd (cc)

in_place : (n length : ℕ) (i : ℕ) → cond (nat_lt n length) (Some n) None ≡ Some i → (n < length) × (n ≡ i)
in_place n length i is = in_place_by (nat_lt n length) n length i (λ h. grind (arith, nat_tests)) is

nowhere_by : (test : Bool) (n length : ℕ) → (n < length → test ≡ true) → cond test (Some n) None ≡ None → n < length → ⊥
nowhere_by true n length within is below = cc
nowhere_by false n length within is below = let yes : false ≡ true = within below in cc

-- the value takes the place
pub put_there : (bind : Bind) (sets : List Bind) (i : ℕ) → place_of bind.symbol sets ≡ Some i → set sets i bind ≡ put bind sets
put_there bind sets i is =
    let found = in_place (place bind sets) (length sets) i is in
    subst (λ (n : ℕ). set sets n bind ≡ put bind sets) found.1 (put_at bind sets found.0)

-- the value comes last
pub put_last : (bind : Bind) (sets : List Bind) → place_of bind.symbol sets ≡ None → sets ++ bind ∷ [] ≡ put bind sets
put_last bind sets is = put_behind bind sets (nowhere_by (nat_lt (place bind sets) (length sets)) (place bind sets) (length sets) (λ below. grind (arith, nat_tests)) is)
