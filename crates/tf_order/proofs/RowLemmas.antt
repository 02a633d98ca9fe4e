-- Numbers that stand in an ascending row.
use Rattle.std.proofs.Common.{◌≡◌, ◌≢◌, ℕ, zero, suc, ◌+◌, ◌<◌, ◌≤◌, List, [], ◌∷◌, ◌++◌, length, Bool, true, false, ◌||◌, refl, sym, ap, subst, ◌∙◌, inl, inr, arith, eqb-true, slice_index_or}
use Rattle.std.specs.Prelude.{nat_eq, if◌then◌else◌}
use Rattle.std.specs.Prelude.{Ok, Err}
use Rattle.std.specs.Ordering.{nat_cmp}
use Rattle.std.specs.List.Sorted.{IsBinarySearchResult}
use Rattle.std.proofs.lemmas.Bool.{cases_lt}
use Rattle.std.proofs.lemmas.List.Sorted.{searched}
use Rattle.tf_numbers.specs.Numbers.{which_below, has_number}
use Rattle.tf_numbers.proofs.EquationLemmas.{ap2}
use Rattle.tf_numbers.proofs.ListLemmas.{length_more, nothing_after}
use Rattle.tf_numbers.proofs.PairLemmas.{which_passes}
use Rattle.tf_numbers.proofs.TruthLemmas.{never_true}
use Rattle.tf_links.proofs.StandingLemmas.{listed_within}
use Rattle.tf_order.proofs.TableLemmas.{read_first, read_end}

-- the numbers rise
abbrev IsRising : List ℕ → Type 0
IsRising xs = (i j : ℕ) → i ≤ j → j < length xs → slice_index_or xs i 0 ≤ slice_index_or xs j 0

rising_more : (xs : List ℕ) (x : ℕ) → IsRising xs → ((i : ℕ) → i < length xs → slice_index_or xs i 0 < x) → IsRising (xs ++ x ∷ [])
rising_more xs x up low i j from below = elim (cases_lt j (length xs)) [
  | inl inside ↦
      let first = read_first xs x i (omega (arith, from, inside)) in
      let second = read_first xs x j inside in
      let order = up i j from inside in
      omega (arith, first, second, order)
  | inr last ↦
      let place : j ≡ length xs = omega (arith, last, below, length_more xs x) in
      let second : slice_index_or (xs ++ x ∷ []) j 0 ≡ x = ap (λ (k : ℕ). slice_index_or (xs ++ x ∷ []) k 0) place ∙ read_end xs x in
      elim (cases_lt i (length xs)) [
        | inl inside ↦ let first = read_first xs x i inside in let order = low i inside in omega (arith, first, second, order)
        | inr there ↦
            let same : i ≡ length xs = omega (arith, there, from, place) in
            let first : slice_index_or (xs ++ x ∷ []) i 0 ≡ x = ap (λ (k : ℕ). slice_index_or (xs ++ x ∷ []) k 0) same ∙ read_end xs x in
            omega (arith, first, second)
      ]
]

-- each of the numbers below n at which a test passes is below n
which_under : (n : ℕ) (test : ℕ → Bool) (i : ℕ) → i < length (which_below n test) → slice_index_or (which_below n test) i 0 < n
which_under n test i below =
    let found = which_passes n test (nat_eq (slice_index_or (which_below n test) i 0)) (listed_within (which_below n test) i below) in
    let same : slice_index_or (which_below n test) i 0 ≡ found.number = eqb-true (slice_index_or (which_below n test) i 0) found.number found.passes in
    let under = found.below in
    omega (arith, same, under)

rising_with : (xs : List ℕ) (n : ℕ) (on : Bool) → IsRising xs → ((i : ℕ) → i < length xs → slice_index_or xs i 0 < n) → IsRising (xs ++ (if on then n ∷ [] else []))
rising_with xs n true up low = rising_more xs n up low
rising_with xs n false up low = subst IsRising (sym (nothing_after xs)) up

nothing_rises : IsRising []
nothing_rises i j from below = absurd (omega arith)

-- these numbers rise
which_rises : (n : ℕ) (test : ℕ → Bool) → IsRising (which_below n test)
which_rises zero test = nothing_rises
which_rises (suc n) test = rising_with (which_below n test) n (test n) (which_rises n test) (which_under n test)

-- a number that none of the list is doesn't stand in it
differs : (xs : List ℕ) (x : ℕ) → ((k : ℕ) → k < length xs → x ≢ slice_index_or xs k 0) → has_number xs x ≡ false
differs [] x other = refl
differs (y ∷ xs) x other = ap2 (λ (a b : Bool). a || b) (never_true (nat_eq x y) (λ is. other zero (omega arith) (eqb-true x y is))) (differs xs x (λ k below. other (suc k) (omega (arith, below))))

-- a number below the first
pub first_is_past : (row : List ℕ) (first x : ℕ) → slice_index_or row 0 0 ≡ first → x < first → (count : ℕ) (test : ℕ → Bool) → row ≡ which_below count test → false ≡ has_number row x
first_is_past row first x is less count test are = sym (differs row x (λ k below same.
    let up : slice_index_or row 0 0 ≤ slice_index_or row k 0 = subst IsRising (sym are) (which_rises count test) 0 k (omega arith) below in
    omega (arith, is, less, up, same)))

pub listed_at : (row : List ℕ) (place number v : ℕ) → place < length row → v ≡ slice_index_or row place 0 → v ≡ number → has_number row number ≡ true
listed_at row place number v below read same = ap (has_number row) (sym same ∙ read) ∙ listed_within row place below

-- what a search by halving finds
pub found_there : (row : List ℕ) (x place : ℕ) → IsBinarySearchResult (λ y. nat_cmp y x) row (Ok place) → (count : ℕ) (test : ℕ → Bool) → row ≡ which_below count test → true ≡ has_number row x
found_there row x place is count test are =
    let found = searched row x (Ok place) is (subst IsRising (sym are) (which_rises count test)) in
    sym (ap (has_number row) (sym (found.1)) ∙ listed_within row place found.0)

pub found_nowhere : (row : List ℕ) (x place : ℕ) → IsBinarySearchResult (λ y. nat_cmp y x) row (Err place) → (count : ℕ) (test : ℕ → Bool) → row ≡ which_below count test → false ≡ has_number row x
found_nowhere row x place is count test are =
    let found = searched row x (Err place) is (subst IsRising (sym are) (which_rises count test)) in
    sym (differs row x (λ k below same. elim (cases_lt k place) [
      | inl before ↦ let less = found.1 k before in omega (arith, less, same)
      | inr from ↦ let more = found.2 k from below in omega (arith, more, same)
    ]))
