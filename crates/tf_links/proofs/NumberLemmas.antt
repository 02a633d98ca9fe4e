-- The numbers of a set, one after another, and runs of them.
use Rattle.std.proofs.Common.{◌≡◌, ◌≢◌, ℕ, ◌+◌, ◌-◌, ◌*◌, ◌/◌, ◌%◌, ◌^◌, ◌<◌, ◌≤◌, List, [], ◌∷◌, ◌++◌, length, Bool, true, false, ◌&&◌, ◌||◌, not, Some, refl, sym, ap, ◌∙◌, add-one, inl, inr, arith, slice_set, slice_index_or, bit_and, bit_or, w64}
use Rattle.std.specs.Prelude.{nat_eq, if◌then◌else◌}
use Rattle.std.specs.Int.{bit_at, bit_not, trailing_zeros}
use Rattle.std.proofs.lemmas.Bool.{cases_lt}
use Rattle.std.proofs.lemmas.Nat.{and_le_l, pow-add}
use Rattle.std.proofs.Math.Nat.{div-div-eq-div-mul, div-le_self}
use Rattle.std.proofs.lemmas.List.{length-set}
use Rattle.std.proofs.lemmas.Nat.Bits.{bit_at-zero, bit_at-lt, bit_at_above, bit_at_not, bit_at-trailing_zeros, shr_and_one}
use Rattle.tf_numbers.specs.Numbers.{first_below, which_below}
use Rattle.tf_links.specs.Bits.{has, room, has_both, is_within, AreUnset, AreAlike, IsFirstBit}
use Rattle.tf_numbers.proofs.BelowLemmas.{all_at, which_more}
use Rattle.tf_numbers.proofs.EquationLemmas.{ap2}
use Rattle.tf_numbers.proofs.TruthLemmas.{clash}
use Rattle.tf_links.proofs.BitLemmas.{index_zero, word_of, past_none, bit_here, insert_told, remove_told, Joined, joined_more, WithinBelow, within_more, within_not, ApartBelow, apart_more, common_found}

-- ---- the numbers of a set

-- a word with no bit has no number
pub word_none : (xs : List ℕ) (i v k : ℕ) → v ≡ slice_index_or xs i 0 → v ≡ 0 → k / 64 ≡ i → has xs k ≡ false
unfolding has
word_none xs i v k is none same = ap (λ (x : ℕ). nat_eq (bit_at x (k % 64)) 1) (ap (λ (j : ℕ). slice_index_or xs j 0) same ∙ (sym is ∙ none)) ∙ ap (λ (b : ℕ). nat_eq b 1) (bit_at-zero (k % 64))

-- what a test of a bit finds
pub bit_read : (xs : List ℕ) (k v : ℕ) → k / 64 < length xs → v ≡ slice_index_or xs (k / 64) v → nat_eq (bit_and (v / 2 ^ (k % 64)) 1) 1 ≡ has xs k
unfolding has
bit_read xs k v within is = ap (λ (b : ℕ). nat_eq b 1) (shr_and_one v (k % 64)) ∙ ap (λ (w : ℕ). nat_eq (bit_at w (k % 64)) 1) (index_zero xs (k / 64) v within is)

pub insert_here : (xs : List ℕ) (n v k : ℕ) → n / 64 < length xs → v ≡ slice_index_or xs (n / 64) v
    → has (slice_set xs (n / 64) (bit_or v (1 * 2 ^ (n % 64) % 2 ^ 64))) k ≡ (nat_eq n k || has xs k)
insert_here xs n v k within is = ap (λ (w : ℕ). has (slice_set xs (n / 64) (bit_or w (1 * 2 ^ (n % 64) % 2 ^ 64))) k) (index_zero xs (n / 64) v within is) ∙ insert_told xs n k within

pub remove_here : (xs : List ℕ) (n v k : ℕ) → n / 64 < length xs → v ≡ slice_index_or xs (n / 64) v
    → has (slice_set xs (n / 64) (bit_and v (bit_not w64 (1 * 2 ^ (n % 64) % 2 ^ 64)))) k ≡ (not (nat_eq n k) && has xs k)
remove_here xs n v k within is = ap (λ (w : ℕ). has (slice_set xs (n / 64) (bit_and w (bit_not w64 (1 * 2 ^ (n % 64) % 2 ^ 64)))) k) (index_zero xs (n / 64) v within is) ∙ remove_told xs n k within

pub joined_here : (old other new : List ℕ) (i v w : ℕ) → Joined old other new i → i < length new → length new ≡ length old → length other ≡ length old
    → v ≡ slice_index_or new i v → w ≡ slice_index_or other i w → Joined old other (slice_set new i (bit_or v w)) (i + 1)
joined_here old other new i v w before within same there v_is w_is =
    joined_more old other new i v w before within (omega (arith, within, same)) (omega (arith, within, same, there))
    (index_zero new i v within v_is) (index_zero other i w (omega (arith, within, same, there)) w_is)

pub length_joined : (new : List ℕ) (i w : ℕ) → length (slice_set new i w) ≡ length new
length_joined new i w = length-set new i w

-- one more number of a set
pub which_next : (n : ℕ) (test : ℕ → Bool) → test n ≡ true → which_below n test ++ n ∷ [] ≡ which_below (n + 1) test
which_next n test is = rw (add-one n) (ap (λ (b : Bool). which_below n test ++ (if b then n ∷ [] else [])) (sym is))

pub which_pass : (n : ℕ) (test : ℕ → Bool) → test n ≡ false → which_below n test ≡ which_below (n + 1) test
which_pass n test is = sym (which_more n (n + 1) test (omega arith) (λ k above below. let same : n ≡ k = omega (arith, above, below) in ap test (sym same) ∙ is))

pub within_here : (xs ys : List ℕ) (i v w : ℕ) → WithinBelow xs ys i → i < length xs → length ys ≡ length xs → v ≡ slice_index_or xs i v → w ≡ slice_index_or ys i w → bit_or v w ≡ w → WithinBelow xs ys (i + 1)
within_here xs ys i v w before inside same v_is w_is none =
    within_more xs ys i v w before (index_zero xs i v inside v_is) (index_zero ys i w (omega (arith, inside, same)) w_is) none

pub outside_here : (xs ys : List ℕ) (i v w : ℕ) → i < length xs → length ys ≡ length xs → v ≡ slice_index_or xs i v → w ≡ slice_index_or ys i w → v < 2 ^ 64 → w < 2 ^ 64 → bit_or v w ≢ w → false ≡ is_within xs ys
outside_here xs ys i v w inside same v_is w_is v_fits w_fits differ =
    within_not xs ys i v w inside (index_zero xs i v inside v_is) (index_zero ys i w (omega (arith, inside, same)) w_is) v_fits w_fits differ

pub apart_here : (xs ys : List ℕ) (i v w : ℕ) → ApartBelow xs ys i → i < length xs → length ys ≡ length xs → v ≡ slice_index_or xs i v → w ≡ slice_index_or ys i w → bit_and v w ≡ 0 → ApartBelow xs ys (i + 1)
apart_here xs ys i v w before inside same v_is w_is none =
    apart_more xs ys i v w before (index_zero xs i v inside v_is) (index_zero ys i w (omega (arith, inside, same)) w_is) none

pub common_here : (xs ys : List ℕ) (i v w : ℕ) → ApartBelow xs ys i → i < length xs → length ys ≡ length xs → v ≡ slice_index_or xs i v → w ≡ slice_index_or ys i w → bit_and v w ≢ 0 → v < 2 ^ 64
    → Some (i * 64 + trailing_zeros w64 (bit_and v w)) ≡ first_below (room xs) (has_both xs ys)
common_here xs ys i v w before inside same v_is w_is some fits =
    common_found xs ys i v w before inside (index_zero xs i v inside v_is) (index_zero ys i w (omega (arith, inside, same)) w_is) some (omega (arith, fits, and_le_l v w))

pub none_of_word : (xs : List ℕ) (i v : ℕ) → i < length xs → v ≡ slice_index_or xs i v → v ≡ 0 → which_below (64 * i) (has xs) ≡ which_below (64 * (i + 1)) (has xs)
none_of_word xs i v inside is none = sym (which_more (64 * i) (64 * (i + 1)) (has xs) (omega arith)
    (λ k above below. word_none xs i v k (index_zero xs i v inside is) none (omega (arith, above, below))))

-- ---- the bits of a word, one after another

-- the bits of a word that was shifted
shifted : (word bit k : ℕ) → bit_at (word / 2 ^ bit) k ≡ bit_at word (bit + k)
shifted word bit k = ap (λ (n : ℕ). n % 2) (div-div-eq-div-mul word (2 ^ bit) (2 ^ k) ∙ ap (λ (n : ℕ). word / n) (sym (pow-add 2 bit k)))

unset_from : (word bit k : ℕ) → bit ≤ k → bit_at (word / 2 ^ bit) (k - bit) ≡ 0 → bit_at word k ≡ 0
unset_from word bit k above none = let same : bit + (k - bit) ≡ k = omega (arith, above) in ap (bit_at word) (sym same) ∙ (sym (shifted word bit (k - bit)) ∙ none)

-- what is left of a word is 0
pub no_bit : (word bit rest : ℕ) → rest ≡ word / 2 ^ bit → rest ≡ 0 → AreUnset word bit 64
no_bit word bit rest is none k above below =
    unset_from word bit k above (ap (λ (n : ℕ). bit_at n (k - bit)) (sym is ∙ none) ∙ bit_at-zero (k - bit))

-- the lowest bit of what is left
pub first_bit : (word bit rest : ℕ) → rest ≡ word / 2 ^ bit → rest ≢ 0 → word < 2 ^ 64 → IsFirstBit word bit (bit + trailing_zeros w64 rest)
first_bit word bit rest is some fits =
    let less = div-le_self word (2 ^ bit) in
    let rest_fits : rest < 2 ^ 64 = omega (arith, less, is, fits) in
    let lowest = bit_at-trailing_zeros w64 rest (omega (arith, some)) rest_fits in
    let set : bit_at word (bit + trailing_zeros w64 rest) ≡ 1 = sym (shifted word bit (trailing_zeros w64 rest)) ∙ (ap (λ (n : ℕ). bit_at n (trailing_zeros w64 rest)) (sym is) ∙ lowest.1) in
    record {
      begins = omega arith;
      ends = elim (cases_lt (bit + trailing_zeros w64 rest) 64) [
        | inl below ↦ below
        | inr past ↦ let none = bit_at_above word 64 (bit + trailing_zeros w64 rest) fits past in absurd (omega (arith, set, none))
      ];
      set = set;
      first = λ k above below. unset_from word bit k above (ap (λ (n : ℕ). bit_at n (k - bit)) (sym is) ∙ lowest.2 (k - bit) (omega (arith, above, below)));
    }

unset_number : (xs : List ℕ) (i bit v end k : ℕ) → i < length xs → v ≡ slice_index_or xs i v → AreUnset v bit end → end ≤ 64 → 64 * i + bit ≤ k → k < 64 * i + end → has xs k ≡ false
unset_number xs i bit v end k inside read none most above below =
    let place : k ≡ i * 64 + (k - 64 * i) = omega (arith, above) in
    ap (has xs) place
    ∙ (sym (bit_here xs i v (k - 64 * i) (omega (arith, above, below, most)) (index_zero xs i v inside read))
    ∙ ap (λ (b : ℕ). nat_eq b 1) (none (k - 64 * i) (omega (arith, above)) (omega (arith, above, below))))

-- none of a word's numbers is left
pub word_over : (xs numbers : List ℕ) (i bit v : ℕ) → i < length xs → v ≡ slice_index_or xs i v → numbers ≡ which_below (64 * i + bit) (has xs) → bit ≤ 64 → AreUnset v bit 64 → numbers ≡ which_below (64 * (i + 1)) (has xs)
word_over xs numbers i bit v inside read are room none =
    are ∙ sym (which_more (64 * i + bit) (64 * (i + 1)) (has xs) (omega (arith, room)) (λ k above below. unset_number xs i bit v 64 k inside read none (omega arith) above (omega (arith, below))))

-- the next of a word's numbers
pub word_next : (xs numbers : List ℕ) (i bit v place : ℕ) → i < length xs → v ≡ slice_index_or xs i v → numbers ≡ which_below (64 * i + bit) (has xs) → IsFirstBit v bit place → numbers ++ (i * 64 + place) ∷ [] ≡ which_below (64 * i + (place + 1)) (has xs)
word_next xs numbers i bit v place inside read are is =
    let from = is.begins in
    let here : i * 64 + place ≡ 64 * i + place = omega arith in
    let next : 64 * i + place + 1 ≡ 64 * i + (place + 1) = omega arith in
    ap2 (λ (ns : List ℕ) (n : ℕ). ns ++ n ∷ []) (are ∙ sym (which_more (64 * i + bit) (64 * i + place) (has xs) (omega (arith, from)) (λ k above below. unset_number xs i bit v place k inside read is.first (let ends = is.ends in omega (arith, ends)) above below))) here
    ∙ (which_next (64 * i + place) (has xs) (ap (has xs) (sym here) ∙ (sym (bit_here xs i v place is.ends (index_zero xs i v inside read)) ∙ ap (λ (b : ℕ). nat_eq b 1) is.set))
    ∙ ap (λ (n : ℕ). which_below n (has xs)) next)

-- ---- runs of numbers

-- the numbers from one on up to before the end are in the set as it is
abbrev pub IsRun : List ℕ → ℕ → ℕ → Type 0
IsRun words from end = (k : ℕ) → from ≤ k → k < end → has words k ≡ has words from

pub run_start : (words : List ℕ) (from end : ℕ) → end ≡ from + 1 → IsRun words from end
run_start words from end is k above below = let here : k ≡ from = omega (arith, is, above, below) in ap (has words) here

pub run_on : (words : List ℕ) (from end next : ℕ) (on : Bool) → IsRun words from end → on ≡ has words from → AreAlike words on end (end + (64 - end % 64)) → next ≤ end + (64 - end % 64) → IsRun words from next
run_on words from end next on before on_is each room k above below = elim (cases_lt k end) [
  | inl earlier ↦ before k above earlier
  | inr late ↦ each k late (omega (arith, below, room)) ∙ on_is
]

pub run_cut : (words : List ℕ) (from end next other : ℕ) (on : Bool) → IsRun words from end → on ≡ has words from → AreAlike words on end other → next ≤ other → IsRun words from next
run_cut words from end next other on before on_is each room k above below = elim (cases_lt k end) [
  | inl earlier ↦ before k above earlier
  | inr late ↦ each k late (omega (arith, below, room)) ∙ on_is
]

-- ---- a word's bits that aren't as they should be

-- what the bits of a word tell of its numbers
abbrev TellsOthers : List ℕ → ℕ → Bool → ℕ → Type 0
TellsOthers words i on others = (k : ℕ) → k < 64 → bit_at others k ≡ 0 → has words (i * 64 + k) ≡ on

full_bit : (i : ℕ) → i < 64 → nat_eq (bit_at 18446744073709551615 i) 1 ≡ true
full_bit i below = all_at 64 (λ (j : ℕ). nat_eq (bit_at 18446744073709551615 j) 1) i refl below

bit_is_set : (b : ℕ) → b < 2 → 1 - b ≡ 0 → b ≡ 1
bit_is_set b small none = omega (arith, small, none)

pub other_bits_on : (words : List ℕ) (i v : ℕ) → i < length words → v ≡ slice_index_or words i v → v < 2 ^ 64 → (k : ℕ) → k < 64 → bit_at (bit_not w64 v) k ≡ 0 → has words (i * 64 + k) ≡ true
other_bits_on words i v inside read fits k below none =
    sym (bit_here words i v k below (index_zero words i v inside read))
    ∙ ap (λ (b : ℕ). nat_eq b 1) (bit_is_set (bit_at v k) (bit_at-lt v k) (sym (bit_at_not w64 v k fits below) ∙ none))

pub other_bits_off : (words : List ℕ) (i v : ℕ) → i < length words → v ≡ slice_index_or words i v → (k : ℕ) → k < 64 → bit_at v k ≡ 0 → has words (i * 64 + k) ≡ false
other_bits_off words i v inside read k below none =
    sym (bit_here words i v k below (index_zero words i v inside read)) ∙ ap (λ (b : ℕ). nat_eq b 1) none

pub other_bits_past_on : (words : List ℕ) (i : ℕ) → (k : ℕ) → k < 64 → bit_at 18446744073709551615 k ≡ 0 → has words (i * 64 + k) ≡ true
other_bits_past_on words i k below none = absurd (clash (nat_eq (bit_at 18446744073709551615 k) 1) (full_bit k below) (ap (λ (b : ℕ). nat_eq b 1) none))

pub other_bits_past : (words : List ℕ) (i : ℕ) → length words ≤ i → (k : ℕ) → k < 64 → has words (i * 64 + k) ≡ false
other_bits_past words i past k below = past_none words (i * 64 + k) (omega (arith, past, word_of i k below))

as_told : (words : List ℕ) (on : Bool) (number others end k : ℕ) → TellsOthers words (number / 64) on others → AreUnset others (number % 64) end → end ≤ 64 → number ≤ k → k < number - number % 64 + end → has words k ≡ on
as_told words on number others end k tells none most above below =
    let place : k ≡ number / 64 * 64 + (k - number / 64 * 64) = omega (arith, above) in
    ap (has words) place ∙ tells (k - number / 64 * 64) (omega (arith, above, below, most)) (none (k - number / 64 * 64) (omega (arith, above)) (omega (arith, above, below)))

pub none_other : (words : List ℕ) (on : Bool) (number others : ℕ) → TellsOthers words (number / 64) on others → AreUnset others (number % 64) 64 → AreAlike words on number (number + (64 - number % 64))
none_other words on number others tells none k above below = as_told words on number others 64 k tells none (omega arith) above (omega (arith, below))

pub one_other : (words : List ℕ) (on : Bool) (number others bit : ℕ) → TellsOthers words (number / 64) on others → IsFirstBit others (number % 64) bit → AreAlike words on number (number - number % 64 + bit)
one_other words on number others bit tells is k above below = as_told words on number others bit k tells is.first (let ends = is.ends in omega (arith, ends)) above below
