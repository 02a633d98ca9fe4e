-- Rows of the numbers of atoms, and what they tell of a plan.
use Rattle.std.proofs.Common.{◌≡◌, ℕ, zero, suc, ◌+◌, ◌<◌, ◌≤◌, ◌-◌, List, [], ◌∷◌, ◌++◌, length, drop, map, true, refl, sym, ap, ◌∙◌, add-one, inl, inr, arith, eqb-true, slice_index_or}
use Rattle.std.specs.Prelude.{nat_eq}
use Rattle.std.proofs.lemmas.Bool.{cases_lt}
use Rattle.std.proofs.lemmas.List.{map-append}
use Rattle.tf_numbers.specs.Numbers.{numbers_below, which_below, has_number}
use Rattle.tf_model.specs.Plan.{count}
use Rattle.tf_links.specs.Bits.{has, room, words_for}
use Rattle.tf_order.specs.Rows.{row_at}
use Rattle.tf_order.specs.Tables.{AllBelow}
use Rattle.tf_numbers.proofs.BelowLemmas.{which_more}
use Rattle.tf_numbers.proofs.EquationLemmas.{ap2}
use Rattle.tf_numbers.proofs.PairLemmas.{which_passes}
use Rattle.tf_numbers.proofs.TruthLemmas.{never_true}
use Rattle.tf_numbers.proofs.ListLemmas.{length_more}

-- ---- one row more

-- so many rows, with nothing in them
pub record EmptyRows (count : ℕ) (rows : List (List ℕ)) : Type 0 where
  pub height : length rows ≡ count
  pub none : (k : ℕ) → row_at rows k ≡ []

pub empty_start : (rows : List (List ℕ)) → rows ≡ [] → EmptyRows 0 rows
empty_start rows is = record { height = ap length is; none = λ k. ap (λ (xs : List (List ℕ)). row_at xs k) is }

empty_next : (rows : List (List ℕ)) → ((k : ℕ) → row_at rows k ≡ []) → (k : ℕ) → row_at (rows ++ [] ∷ []) k ≡ []
empty_next [] none zero = refl
empty_next [] none (suc k) = refl
empty_next (row ∷ rows) none zero = none zero
empty_next (row ∷ rows) none (suc k) = empty_next rows (λ j. none (suc j)) k

pub empty_more : (rows new : List (List ℕ)) (row : List ℕ) (i : ℕ) → EmptyRows i rows → row ≡ [] → new ≡ rows ++ row ∷ [] → EmptyRows (i + 1) new
empty_more rows new row i before none is = record {
  height = ap length is ∙ (length_more rows row ∙ ap (λ (n : ℕ). n + 1) before.height);
  none = λ k. ap (λ (xs : List (List ℕ)). row_at xs k) (is ∙ ap (λ (r : List ℕ). rows ++ r ∷ []) none) ∙ empty_next rows before.none k;
}

-- ---- a set as a row

-- the numbers of a set that are below a count
pub set_told : (count : ℕ) (set numbers row : List ℕ) → numbers ≡ which_below (room set) (has set) → length set ≡ words_for count → ((k : ℕ) → has set k ≡ true → k < count) → row ≡ numbers → row ≡ which_below count (has set)
set_told count set numbers row is wide below same =
    same ∙ (is ∙ which_more count (room set) (has set) (omega (arith, wide)) (λ k from to. never_true (has set k) (λ on. let under : k < count = below k on in absurd (omega (arith, from, under)))))

pub set_below : (count : ℕ) (set numbers : List ℕ) → numbers ≡ which_below (room set) (has set) → ((k : ℕ) → has set k ≡ true → k < count) → count ≤ 1000 → AllBelow 1000 numbers
set_below count set numbers is below few k on =
    let found = which_passes (room set) (has set) (nat_eq k) (ap (λ (xs : List ℕ). has_number xs k) (sym is) ∙ on) in
    let same : k ≡ found.number = eqb-true k found.number found.passes in
    let under : found.number < count = below found.number found.tested in
    omega (arith, same, under, few)

-- ---- rows that grow

pub row_read_at : (rows : List (List ℕ)) (k : ℕ) (row : List ℕ) → k < length rows → row ≡ slice_index_or rows k row → row_at rows k ≡ row
row_read_at [] k row below is = absurd (omega arith)
row_read_at (x ∷ rows) zero row below is = sym is
row_read_at (x ∷ rows) (suc k) row below is = row_read_at rows k row (omega arith) is

-- one row more, of the next number
pub rows_more : (f : ℕ → List ℕ) (n : ℕ) (rows new : List (List ℕ)) (row : List ℕ) → rows ≡ map f (numbers_below n) → row ≡ f n → new ≡ rows ++ row ∷ [] → new ≡ map f (numbers_below (n + 1))
rows_more f n rows new row is row_is pushed =
    pushed
    ∙ (ap2 (λ (xs : List (List ℕ)) (r : List ℕ). xs ++ r ∷ []) is row_is
    ∙ (sym (map-append f (numbers_below n) (n ∷ []))
    ∙ ap (λ (k : ℕ). map f (numbers_below k)) (sym (add-one n))))

pub rows_whole : (f : ℕ → List ℕ) (n m : ℕ) (rows : List (List ℕ)) → rows ≡ map f (numbers_below n) → n ≡ m → rows ≡ map f (numbers_below m)
rows_whole f n m rows is same = is ∙ ap (λ (k : ℕ). map f (numbers_below k)) same

pub chain : (xs ys zs : List ℕ) → (xs ++ ys) ++ zs ≡ xs ++ (ys ++ zs)
chain [] ys zs = refl
chain (x ∷ xs) ys zs = ap (λ (ws : List ℕ). x ∷ ws) (chain xs ys zs)

-- the numbers so far, and one more
pub numbers_start : (numbers : List ℕ) → numbers ≡ [] → numbers ≡ numbers_below 0
numbers_start numbers is = is

pub numbers_whole : (n m : ℕ) (numbers : List ℕ) → numbers ≡ numbers_below n → n ≡ m → numbers ≡ numbers_below m
numbers_whole n m numbers is same = is ∙ ap numbers_below same

pub numbers_more : (n : ℕ) (numbers new : List ℕ) → numbers ≡ numbers_below n → new ≡ numbers ++ n ∷ [] → new ≡ numbers_below (n + 1)
numbers_more n numbers new is more = more ∙ (ap (λ (xs : List ℕ). xs ++ n ∷ []) is ∙ ap numbers_below (sym (add-one n)))

pub read_first : (xs : List ℕ) (x i : ℕ) → i < length xs → slice_index_or (xs ++ x ∷ []) i 0 ≡ slice_index_or xs i 0
read_first [] x i below = absurd (omega arith)
read_first (y ∷ xs) x zero below = refl
read_first (y ∷ xs) x (suc i) below = read_first xs x i (omega arith)

pub read_end : (xs : List ℕ) (x : ℕ) → slice_index_or (xs ++ x ∷ []) (length xs) 0 ≡ x
read_end [] x = refl
read_end (y ∷ xs) x = read_end xs x

pub so_many : (n : ℕ) → length (numbers_below n) ≡ n
so_many zero = refl
so_many (suc n) = length_more (numbers_below n) n ∙ (ap (λ (k : ℕ). k + 1) (so_many n) ∙ add-one n)

pub numbers_room : (numbers : List ℕ) (n end : ℕ) → numbers ≡ numbers_below n → end ≤ n → end ≤ length numbers
numbers_room numbers n end is within = omega (arith, ap length is, so_many n, within)

-- each number stands at its place
pub number_there : (n k : ℕ) → k < n → slice_index_or (numbers_below n) k 0 ≡ k
number_there zero k below = absurd (omega arith)
number_there (suc n) k below = elim (cases_lt k n) [
  | inl before ↦ read_first (numbers_below n) n k (omega (arith, before, so_many n)) ∙ number_there n k before
  | inr last ↦
      let same : k ≡ n = omega (arith, last, below) in
      let here : k ≡ length (numbers_below n) = omega (arith, same, so_many n) in
      ap (λ (i : ℕ). slice_index_or (numbers_below n ++ n ∷ []) i 0) here ∙ (read_end (numbers_below n) n ∙ sym same)
]

pub read_dropped : (xs : List ℕ) (b i : ℕ) → slice_index_or (drop b xs) i 0 ≡ slice_index_or xs (b + i) 0
read_dropped xs zero i = let same : i ≡ zero + i = omega arith in ap (λ (k : ℕ). slice_index_or xs k 0) same
read_dropped [] (suc b) i = refl
read_dropped (x ∷ xs) (suc b) i = let same : suc (b + i) ≡ suc b + i = omega arith in read_dropped xs b i ∙ ap (λ (k : ℕ). slice_index_or (x ∷ xs) k 0) same

pub left_over : (xs : List ℕ) (b : ℕ) → length (drop b xs) ≡ length xs - b
left_over xs zero = omega arith
left_over [] (suc b) = omega arith
left_over (x ∷ xs) (suc b) = let same : length xs - b ≡ length (x ∷ xs) - suc b = omega arith in left_over xs b ∙ same
