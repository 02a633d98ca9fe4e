-- Bits of words as sets of numbers.
use Rattle.std.proofs.Common.{◌≡◌, ◌≢◌, ℕ, zero, suc, ◌+◌, ◌*◌, ◌/◌, ◌%◌, ◌^◌, ◌<◌, ◌≤◌, min, max, List, [], ◌∷◌, ◌++◌, length, Bool, true, false, ◌&&◌, ◌||◌, not, Some, None, refl, sym, ap, ◌∙◌, inl, inr, arith, eqb-true, eq-eqb, slice_set, slice_index_or, bit_and, bit_or, w64}
use Rattle.std.specs.Prelude.{nat_eq, nat_lt, if◌then◌else◌}
use Rattle.std.specs.Int.{bit_at, bit_not, trailing_zeros}
use Rattle.std.proofs.lemmas.Bool.{cases_lt, ltb-true, lt-ltb}
use Rattle.std.proofs.lemmas.Nat.{or_lt}
use Rattle.std.proofs.lemmas.List.{get_or-set_same, get_or-set_other}
use Rattle.std.proofs.lemmas.Nat.Bits.{bit_at-zero, bit_at_and, bit_at_or, bit_at_set_same, bit_at_set_other, bit_at_clear_same, bit_at_clear_other, bit_at-trailing_zeros, bit_at-lt, same_from_bits_below}
use Rattle.tf_numbers.specs.Numbers.{first_below}
use Rattle.tf_links.specs.Bits.{has, room, has_both, has_if, is_within}
use Rattle.tf_numbers.proofs.TruthLemmas.{same_truth, never_true, clash}
use Rattle.tf_numbers.proofs.EquationLemmas.{ap2}
use Rattle.tf_numbers.proofs.BelowLemmas.{all_at, all_of, first_is, first_none}

-- what is read within a list doesn't depend on what stands for nothing
pub index_zero : (xs : List ℕ) (i v : ℕ) → i < length xs → v ≡ slice_index_or xs i v → v ≡ slice_index_or xs i 0
index_zero [] i v within is = absurd (omega arith)
index_zero (x ∷ xs) zero v within is = is
index_zero (x ∷ xs) (suc i) v within is = index_zero xs i v (omega arith) is

-- ---- one word and one bit

pub word_of : (i b : ℕ) → b < 64 → (i * 64 + b) / 64 ≡ i
word_of i b below = omega arith

pub bit_of : (i b : ℕ) → b < 64 → (i * 64 + b) % 64 ≡ b
bit_of i b below = omega arith

pub bit_below : (k : ℕ) → k % 64 < 64
bit_below k = omega arith

-- a word past the last one has no bit
pub past_none : (words : List ℕ) (k : ℕ) → length words ≤ k / 64 → has words k ≡ false
unfolding has
past_none words k past = rw (no_word words (k / 64) past, bit_at-zero (k % 64)) refl
  where
    no_word : (xs : List ℕ) (i : ℕ) → length xs ≤ i → slice_index_or xs i 0 ≡ 0
    no_word [] i past = refl
    no_word (x ∷ xs) zero past = absurd (omega arith)
    no_word (x ∷ xs) (suc i) past = no_word xs i (omega arith)

-- what a word that is written has
pub set_word : (words : List ℕ) (i w k : ℕ) → i < length words → has (slice_set words i w) k ≡ (if nat_eq (k / 64) i then nat_eq (bit_at w (k % 64)) 1 else has words k)
unfolding has
set_word words i w k within = by_word (nat_eq (k / 64) i) refl
  where
    by_word : (b : Bool) → nat_eq (k / 64) i ≡ b → nat_eq (bit_at (slice_index_or (slice_set words i w) (k / 64) 0) (k % 64)) 1 ≡ (if b then nat_eq (bit_at w (k % 64)) 1 else nat_eq (bit_at (slice_index_or words (k / 64) 0) (k % 64)) 1)
    by_word true is = let same : k / 64 ≡ i = eqb-true (k / 64) i is in
        ap (λ (v : ℕ). nat_eq (bit_at v (k % 64)) 1) (ap (λ (j : ℕ). slice_index_or (slice_set words i w) j 0) same ∙ get_or-set_same words i w 0 within)
    by_word false is = ap (λ (v : ℕ). nat_eq (bit_at v (k % 64)) 1)
        (get_or-set_other words i (k / 64) w 0 (λ same. clash (nat_eq (k / 64) i) (eq-eqb (k / 64) i same) is))

-- ---- one number more or less

same_number : (n k : ℕ) → k / 64 ≡ n / 64 → k % 64 ≡ n % 64 → n ≡ k
same_number n k word bit = omega (arith, word, bit)

or_false : (b : Bool) → false || b ≡ b
or_false b = refl

pub insert_told : (words : List ℕ) (n k : ℕ) → n / 64 < length words
    → has (slice_set words (n / 64) (bit_or (slice_index_or words (n / 64) 0) (1 * 2 ^ (n % 64) % 2 ^ 64))) k ≡ (nat_eq n k || has words k)
unfolding has
insert_told words n k within =
    set_word words (n / 64) (bit_or (slice_index_or words (n / 64) 0) (1 * 2 ^ (n % 64) % 2 ^ 64)) k within
    ∙ by_word (nat_eq (k / 64) (n / 64)) refl
  where
    in_word : (b : Bool) → nat_eq n k ≡ b → k / 64 ≡ n / 64 → nat_eq (bit_at (bit_or (slice_index_or words (n / 64) 0) (1 * 2 ^ (n % 64) % 2 ^ 64)) (k % 64)) 1 ≡ (b || has words k)
    in_word true is word = let same : n ≡ k = eqb-true n k is in
        ap (λ (b : ℕ). nat_eq (bit_at (bit_or (slice_index_or words (n / 64) 0) (1 * 2 ^ (n % 64) % 2 ^ 64)) b) 1) (ap (λ (m : ℕ). m % 64) (sym same))
        ∙ ap (λ (b : ℕ). nat_eq b 1) (bit_at_set_same w64 (slice_index_or words (n / 64) 0) (n % 64) (bit_below n))
    in_word false is word =
        ap (λ (b : ℕ). nat_eq b 1) (bit_at_set_other w64 (slice_index_or words (n / 64) 0) (n % 64) (bit_below n) (k % 64)
        (λ bit. clash (nat_eq n k) (eq-eqb n k (same_number n k word bit)) is))
        ∙ ap (λ (i : ℕ). nat_eq (bit_at (slice_index_or words i 0) (k % 64)) 1) (sym word)

    by_word : (b : Bool) → nat_eq (k / 64) (n / 64) ≡ b
        → (if b then nat_eq (bit_at (bit_or (slice_index_or words (n / 64) 0) (1 * 2 ^ (n % 64) % 2 ^ 64)) (k % 64)) 1 else has words k) ≡ (nat_eq n k || has words k)
    by_word true is = in_word (nat_eq n k) refl (eqb-true (k / 64) (n / 64) is)
    by_word false is = ap (λ (b : Bool). b || has words k)
        (sym (never_true (nat_eq n k) (λ same. clash (nat_eq (k / 64) (n / 64)) (eq-eqb (k / 64) (n / 64) (ap (λ (m : ℕ). m / 64) (sym (eqb-true n k same)))) is)))

pub remove_told : (words : List ℕ) (n k : ℕ) → n / 64 < length words
    → has (slice_set words (n / 64) (bit_and (slice_index_or words (n / 64) 0) (bit_not w64 (1 * 2 ^ (n % 64) % 2 ^ 64)))) k ≡ (not (nat_eq n k) && has words k)
unfolding has
remove_told words n k within =
    set_word words (n / 64) (bit_and (slice_index_or words (n / 64) 0) (bit_not w64 (1 * 2 ^ (n % 64) % 2 ^ 64))) k within
    ∙ by_word (nat_eq (k / 64) (n / 64)) refl
  where
    in_word : (b : Bool) → nat_eq n k ≡ b → k / 64 ≡ n / 64 → nat_eq (bit_at (bit_and (slice_index_or words (n / 64) 0) (bit_not w64 (1 * 2 ^ (n % 64) % 2 ^ 64))) (k % 64)) 1 ≡ (not b && has words k)
    in_word true is word = let same : n ≡ k = eqb-true n k is in
        ap (λ (b : ℕ). nat_eq (bit_at (bit_and (slice_index_or words (n / 64) 0) (bit_not w64 (1 * 2 ^ (n % 64) % 2 ^ 64))) b) 1) (ap (λ (m : ℕ). m % 64) (sym same))
        ∙ ap (λ (b : ℕ). nat_eq b 1) (bit_at_clear_same w64 (slice_index_or words (n / 64) 0) (n % 64) (bit_below n))
    in_word false is word =
        ap (λ (b : ℕ). nat_eq b 1) (bit_at_clear_other w64 (slice_index_or words (n / 64) 0) (n % 64) (bit_below n) (k % 64) (bit_below k)
        (λ bit. clash (nat_eq n k) (eq-eqb n k (same_number n k word bit)) is))
        ∙ ap (λ (i : ℕ). nat_eq (bit_at (slice_index_or words i 0) (k % 64)) 1) (sym word)

    by_word : (b : Bool) → nat_eq (k / 64) (n / 64) ≡ b
        → (if b then nat_eq (bit_at (bit_and (slice_index_or words (n / 64) 0) (bit_not w64 (1 * 2 ^ (n % 64) % 2 ^ 64))) (k % 64)) 1 else has words k) ≡ (not (nat_eq n k) && has words k)
    by_word true is = in_word (nat_eq n k) refl (eqb-true (k / 64) (n / 64) is)
    by_word false is = ap (λ (b : Bool). not b && has words k)
        (sym (never_true (nat_eq n k) (λ same. clash (nat_eq (k / 64) (n / 64)) (eq-eqb (k / 64) (n / 64) (ap (λ (m : ℕ). m / 64) (sym (eqb-true n k same)))) is)))

-- a number past the room isn't there
pub past_room : (words : List ℕ) (n k : ℕ) → length words ≤ n / 64 → has words k ≡ (not (nat_eq n k) && has words k)
past_room words n k past = by_number (nat_eq n k) refl
  where
    by_number : (b : Bool) → nat_eq n k ≡ b → has words k ≡ (not b && has words k)
    by_number true is = past_none words k (let same : n ≡ k = eqb-true n k is in omega (arith, same, past))
    by_number false is = refl

pub not_past : (words : List ℕ) (n k : ℕ) → length words ≤ n / 64 → k < room words → has words k ≡ (nat_eq n k || has words k)
not_past words n k past below = ap (λ (b : Bool). b || has words k) (sym (never_true (nat_eq n k) (λ is. let same : n ≡ k = eqb-true n k is in omega (arith, same, past, below))))

-- ---- two sets

bit_truth : (a : ℕ) → a < 2 → (nat_eq a 1 ≡ false) → a ≡ 0
bit_truth zero below is = refl
bit_truth (suc zero) below is = absurd (cc)
bit_truth (suc (suc a)) below is = absurd (omega arith)

or_bits : (x y : ℕ) → x < 2 → y < 2 → nat_eq (max x y) 1 ≡ (nat_eq x 1 || nat_eq y 1)
or_bits zero zero one other = refl
or_bits zero (suc zero) one other = refl
or_bits (suc zero) zero one other = refl
or_bits (suc zero) (suc zero) one other = refl
or_bits (suc (suc x)) y one other = absurd (omega arith)
or_bits x (suc (suc y)) one other = absurd (omega arith)

and_bits : (x y : ℕ) → x < 2 → y < 2 → nat_eq (min x y) 1 ≡ (nat_eq x 1 && nat_eq y 1)
and_bits zero zero one other = refl
and_bits zero (suc zero) one other = refl
and_bits (suc zero) zero one other = refl
and_bits (suc zero) (suc zero) one other = refl
and_bits (suc (suc x)) y one other = absurd (omega arith)
and_bits x (suc (suc y)) one other = absurd (omega arith)

pub or_word : (a b i : ℕ) → nat_eq (bit_at (bit_or a b) i) 1 ≡ (nat_eq (bit_at a i) 1 || nat_eq (bit_at b i) 1)
or_word a b i = rw (bit_at_or a b i) (or_bits (bit_at a i) (bit_at b i) (bit_at-lt a i) (bit_at-lt b i))

pub and_word : (a b i : ℕ) → nat_eq (bit_at (bit_and a b) i) 1 ≡ (nat_eq (bit_at a i) 1 && nat_eq (bit_at b i) 1)
and_word a b i = rw (bit_at_and a b i) (and_bits (bit_at a i) (bit_at b i) (bit_at-lt a i) (bit_at-lt b i))

-- ---- a new set

pub zero_more : (xs : List ℕ) (k : ℕ) → ((j : ℕ) → slice_index_or xs j 0 ≡ 0) → slice_index_or (xs ++ 0 ∷ []) k 0 ≡ 0
zero_more [] zero each = refl
zero_more [] (suc k) each = refl
zero_more (x ∷ xs) zero each = each 0
zero_more (x ∷ xs) (suc k) each = zero_more xs k (λ j. each (suc j))

pub zeros_none : (xs : List ℕ) (k : ℕ) → ((j : ℕ) → slice_index_or xs j 0 ≡ 0) → has xs k ≡ false
unfolding has
zeros_none xs k each = rw (each (k / 64), bit_at-zero (k % 64)) refl

-- ---- word by word

-- the words below i were joined
abbrev pub Joined : (old other new : List ℕ) (i : ℕ) → Type 0
Joined old other new i = (k : ℕ) → has new k ≡ (if nat_lt (k / 64) i then has old k || has other k else has old k)

pub joined_none : (old other : List ℕ) → Joined old other old 0
joined_none old other k = sym (ap (λ (b : Bool). if b then has old k || has other k else has old k) (never_true (nat_lt (k / 64) 0) (λ less. let below : k / 64 < 0 = ltb-true (k / 64) 0 less in omega (arith, below))))

pub joined_more : (old other new : List ℕ) (i v w : ℕ) → Joined old other new i → i < length new → i < length old → i < length other
    → v ≡ slice_index_or new i 0 → w ≡ slice_index_or other i 0 → Joined old other (slice_set new i (bit_or v w)) (i + 1)
unfolding has
joined_more old other new i v w before within was there v_is w_is k =
    set_word new i (bit_or v w) k within ∙ by_word (nat_eq (k / 64) i) refl
  where
    untouched : k / 64 ≡ i → (if nat_lt (k / 64) i then has old k || has other k else has old k) ≡ has old k
    untouched same = ap (λ (b : Bool). if b then has old k || has other k else has old k) (never_true (nat_lt (k / 64) i) (λ less. let below : k / 64 < i = ltb-true (k / 64) i less in omega (arith, below, same)))

    here : k / 64 ≡ i → nat_eq (bit_at (bit_or v w) (k % 64)) 1 ≡ (has old k || has other k)
    here same = or_word v w (k % 64)
        ∙ ap2 (λ (a b : Bool). a || b)
        (ap (λ (x : ℕ). nat_eq (bit_at x (k % 64)) 1) v_is ∙ (ap (λ (j : ℕ). nat_eq (bit_at (slice_index_or new j 0) (k % 64)) 1) (sym same) ∙ (before k ∙ untouched same)))
        (ap (λ (x : ℕ). nat_eq (bit_at x (k % 64)) 1) w_is ∙ ap (λ (j : ℕ). nat_eq (bit_at (slice_index_or other j 0) (k % 64)) 1) (sym same))

    by_word : (b : Bool) → nat_eq (k / 64) i ≡ b → (if b then nat_eq (bit_at (bit_or v w) (k % 64)) 1 else has new k) ≡ (if nat_lt (k / 64) (i + 1) then has old k || has other k else has old k)
    by_word true is = let same : k / 64 ≡ i = eqb-true (k / 64) i is in
        here same ∙ sym (ap (λ (b : Bool). if b then has old k || has other k else has old k) (lt-ltb (k / 64) (i + 1) (omega (arith, same))))
    by_word false is = before k ∙ ap (λ (b : Bool). if b then has old k || has other k else has old k)
        (same_truth (nat_lt (k / 64) i) (nat_lt (k / 64) (i + 1))
        (λ less. let below : k / 64 < i = ltb-true (k / 64) i less in lt-ltb (k / 64) (i + 1) (omega (arith, below)))
        (λ less. let below : k / 64 < i + 1 = ltb-true (k / 64) (i + 1) less in
        let other : k / 64 ≢ i = λ same. clash (nat_eq (k / 64) i) (eq-eqb (k / 64) i same) is in
        lt-ltb (k / 64) i (omega (arith, below, other))))

pub joined_all : (old other new : List ℕ) (i : ℕ) → Joined old other new i → length old ≤ i → length other ≡ length old → (k : ℕ) → has new k ≡ (has old k || has other k)
joined_all old other new i is whole same k = is k ∙ elim (cases_lt (k / 64) i) [
  | inl below ↦ ap (λ (b : Bool). if b then has old k || has other k else has old k) (lt-ltb (k / 64) i below)
  | inr from ↦ ap (λ (b : Bool). if b then has old k || has other k else has old k) (never_true (nat_lt (k / 64) i) (λ less. let below : k / 64 < i = ltb-true (k / 64) i less in omega (arith, below, from)))
      ∙ (past_none old k (omega (arith, from, whole)) ∙ sym (ap2 (λ (a b : Bool). a || b) (past_none old k (omega (arith, from, whole))) (past_none other k (omega (arith, from, whole, same)))))
]

-- the words below i of the first have nothing that the second doesn't have
abbrev pub WithinBelow : (xs ys : List ℕ) (i : ℕ) → Type 0
WithinBelow xs ys i = (k : ℕ) → k / 64 < i → has_if xs ys k ≡ true

if_words : (a b : Bool) → (a || b) ≡ b → (not a || b) ≡ true
if_words true b is = sym is
if_words false b is = refl

words_if : (a b : Bool) → (not a || b) ≡ true → (a || b) ≡ b
words_if true b is = sym is
words_if false b is = refl

pub within_more : (xs ys : List ℕ) (i v w : ℕ) → WithinBelow xs ys i → v ≡ slice_index_or xs i 0 → w ≡ slice_index_or ys i 0 → bit_or v w ≡ w → WithinBelow xs ys (i + 1)
unfolding has
within_more xs ys i v w before v_is w_is none k below = elim (cases_lt (k / 64) i) [
  | inl earlier ↦ before k earlier
  | inr from ↦ let same : i ≡ k / 64 = omega (arith, from, below) in
      if_words (has xs k) (has ys k)
      (ap2 (λ (a b : ℕ). nat_eq (bit_at a (k % 64)) 1 || nat_eq (bit_at b (k % 64)) 1)
      (ap (λ (j : ℕ). slice_index_or xs j 0) (sym same) ∙ sym v_is) (ap (λ (j : ℕ). slice_index_or ys j 0) (sym same) ∙ sym w_is)
      ∙ (sym (or_word v w (k % 64)) ∙ (ap (λ (x : ℕ). nat_eq (bit_at x (k % 64)) 1) none ∙ ap (λ (x : ℕ). nat_eq (bit_at x (k % 64)) 1) (w_is ∙ ap (λ (j : ℕ). slice_index_or ys j 0) same))))
]

pub within_all : (xs ys : List ℕ) (i : ℕ) → WithinBelow xs ys i → length xs ≤ i → true ≡ is_within xs ys
within_all xs ys i each whole = sym (all_of (room xs) (has_if xs ys) (λ k below. each k (omega (arith, below, whole))))

same_bit : (x y : ℕ) → x < 2 → y < 2 → nat_eq x 1 ≡ nat_eq y 1 → x ≡ y
same_bit zero zero one other is = refl
same_bit (suc zero) (suc zero) one other is = refl
same_bit zero (suc zero) one other is = absurd (cc)
same_bit (suc zero) zero one other is = absurd (cc)
same_bit (suc (suc x)) y one other is = absurd (omega arith)
same_bit x (suc (suc y)) one other is = absurd (omega arith)

pub bit_here : (zs : List ℕ) (i z b : ℕ) → b < 64 → z ≡ slice_index_or zs i 0 → nat_eq (bit_at z b) 1 ≡ has zs (i * 64 + b)
unfolding has
bit_here zs i z b below is = ap2 (λ (x y : ℕ). nat_eq (bit_at x y) 1) (is ∙ ap (λ (j : ℕ). slice_index_or zs j 0) (sym (word_of i b below))) (sym (bit_of i b below))

pub within_not : (xs ys : List ℕ) (i v w : ℕ) → i < length xs → v ≡ slice_index_or xs i 0 → w ≡ slice_index_or ys i 0 → v < 2 ^ 64 → w < 2 ^ 64 → bit_or v w ≢ w → false ≡ is_within xs ys
unfolding has
within_not xs ys i v w inside v_is w_is v_fits w_fits differ = sym (never_true (is_within xs ys) (λ is. differ
    (same_from_bits_below 64 (bit_or v w) w (or_lt 64 v w v_fits w_fits) w_fits (λ b below.
    same_bit (bit_at (bit_or v w) b) (bit_at w b) (bit_at-lt (bit_or v w) b) (bit_at-lt w b)
    (or_word v w b ∙ words_if (nat_eq (bit_at v b) 1) (nat_eq (bit_at w b) 1)
    (ap2 (λ (a c : Bool). not a || c) (bit_here xs i v b below v_is) (bit_here ys i w b below w_is)
    ∙ all_at (room xs) (has_if xs ys) (i * 64 + b) is (omega (arith, inside, below))))))))

-- ---- the least number in both

-- the words below i have no number in common
abbrev pub ApartBelow : (xs ys : List ℕ) (i : ℕ) → Type 0
ApartBelow xs ys i = (k : ℕ) → k / 64 < i → has_both xs ys k ≡ false

both_here : (xs ys : List ℕ) (i v w k : ℕ) → k / 64 ≡ i → v ≡ slice_index_or xs i 0 → w ≡ slice_index_or ys i 0 → has_both xs ys k ≡ nat_eq (bit_at (bit_and v w) (k % 64)) 1
unfolding has
both_here xs ys i v w k same v_is w_is =
    ap2 (λ (a b : ℕ). nat_eq (bit_at a (k % 64)) 1 && nat_eq (bit_at b (k % 64)) 1)
    (ap (λ (j : ℕ). slice_index_or xs j 0) same ∙ sym v_is) (ap (λ (j : ℕ). slice_index_or ys j 0) same ∙ sym w_is)
    ∙ sym (and_word v w (k % 64))

pub apart_more : (xs ys : List ℕ) (i v w : ℕ) → ApartBelow xs ys i → v ≡ slice_index_or xs i 0 → w ≡ slice_index_or ys i 0 → bit_and v w ≡ 0 → ApartBelow xs ys (i + 1)
apart_more xs ys i v w before v_is w_is none k below = elim (cases_lt (k / 64) i) [
  | inl earlier ↦ before k earlier
  | inr from ↦ let same : k / 64 ≡ i = omega (arith, from, below) in
      both_here xs ys i v w k same v_is w_is ∙ (ap (λ (x : ℕ). nat_eq (bit_at x (k % 64)) 1) none ∙ ap (λ (b : ℕ). nat_eq b 1) (bit_at-zero (k % 64)))
]

pub apart_all : (xs ys : List ℕ) (i : ℕ) → ApartBelow xs ys i → length xs ≤ i → None ≡ first_below (room xs) (has_both xs ys)
apart_all xs ys i each whole = sym (first_none (room xs) (has_both xs ys) (λ k below. each k (omega (arith, below, whole))))

pub common_found : (xs ys : List ℕ) (i v w : ℕ) → ApartBelow xs ys i → i < length xs → v ≡ slice_index_or xs i 0 → w ≡ slice_index_or ys i 0 → bit_and v w ≢ 0 → bit_and v w < 2 ^ 64
    → Some (i * 64 + trailing_zeros w64 (bit_and v w)) ≡ first_below (room xs) (has_both xs ys)
common_found xs ys i v w before inside v_is w_is some fits =
    let found = bit_at-trailing_zeros w64 (bit_and v w) (omega (arith, some)) fits in
    sym (first_is (room xs) (has_both xs ys) (i * 64 + trailing_zeros w64 (bit_and v w)) (omega (arith, inside, found.0))
    (both_here xs ys i v w (i * 64 + trailing_zeros w64 (bit_and v w)) (word_of i (trailing_zeros w64 (bit_and v w)) found.0) v_is w_is
    ∙ (ap (λ (b : ℕ). nat_eq (bit_at (bit_and v w) b) 1) (bit_of i (trailing_zeros w64 (bit_and v w)) found.0) ∙ ap (λ (b : ℕ). nat_eq b 1) found.1))
    (λ j less. elim (cases_lt (j / 64) i) [
      | inl earlier ↦ before j earlier
      | inr from ↦ let same : j / 64 ≡ i = omega (arith, from, less, found.0) in
          both_here xs ys i v w j same v_is w_is ∙ ap (λ (b : ℕ). nat_eq b 1) (found.2 (j % 64) (omega (arith, same, less)))
    ]))
