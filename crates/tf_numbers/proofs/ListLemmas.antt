-- Lists.
use Rattle.std.proofs.Common.{◌≡◌, ℕ, zero, suc, ◌+◌, ◌<◌, ◌≤◌, take, drop, get_or, List, [], ◌∷◌, ◌++◌, map, length, Bool, true, false, Some, refl, sym, ap, ◌∙◌, slice_index_or, arith}
use Rattle.std.specs.Prelude.{filter, cond, slice_get}
use Rattle.std.specs.List.{list_all}
use Rattle.tf_numbers.specs.Numbers.{has_number}
use Rattle.tf_numbers.proofs.TruthLemmas.{and_first, and_second}

pub nothing_after : {X : Type 0} (xs : List X) → xs ++ [] ≡ xs
nothing_after {X} [] = refl
nothing_after {X} (x ∷ xs) = ap (λ (ys : List X). x ∷ ys) (nothing_after xs)

pub append_chain : {X : Type 0} (xs ys zs : List X) → (xs ++ ys) ++ zs ≡ xs ++ (ys ++ zs)
append_chain {X} [] ys zs = refl
append_chain {X} (x ∷ xs) ys zs = ap (λ (ws : List X). x ∷ ws) (append_chain xs ys zs)

pub map_append : {X Y : Type 0} (f : X → Y) (xs ys : List X) → map f (xs ++ ys) ≡ map f xs ++ map f ys
map_append f [] ys = refl
map_append f (x ∷ xs) ys = ap (λ (zs : List _). f x ∷ zs) (map_append f xs ys)

filter_step : {X : Type 0} (test : X → Bool) (x : X) (xs ys : List X) (b : Bool) → filter test (xs ++ ys) ≡ filter test xs ++ filter test ys
    → cond b (x ∷ filter test (xs ++ ys)) (filter test (xs ++ ys)) ≡ cond b (x ∷ filter test xs) (filter test xs) ++ filter test ys
filter_step {X} test x xs ys true is = ap (λ (zs : List X). x ∷ zs) is
filter_step test x xs ys false is = is

pub filter_append : {X : Type 0} (test : X → Bool) (xs ys : List X) → filter test (xs ++ ys) ≡ filter test xs ++ filter test ys
filter_append test [] ys = refl
filter_append test (x ∷ xs) ys = filter_step test x xs ys (test x) (filter_append test xs ys)

pub length_both : {X : Type 0} (xs ys : List X) → length (xs ++ ys) ≡ length xs + length ys
length_both [] ys = omega arith
length_both (x ∷ xs) ys = omega (arith, length_both xs ys)

-- all that is there is taken, and nothing is left
pub take_whole : {X : Type 0} (xs : List X) (k : ℕ) → length xs ≤ k → take k xs ≡ xs
take_whole [] zero whole = refl
take_whole [] (suc k) whole = refl
take_whole (x ∷ xs) zero whole = absurd (omega arith)
take_whole {X} (x ∷ xs) (suc k) whole = ap (λ (ys : List X). x ∷ ys) (take_whole xs k (omega arith))

pub drop_whole : {X : Type 0} (xs : List X) (k : ℕ) → length xs ≤ k → drop k xs ≡ []
drop_whole [] zero whole = refl
drop_whole [] (suc k) whole = refl
drop_whole (x ∷ xs) zero whole = absurd (omega arith)
drop_whole (x ∷ xs) (suc k) whole = drop_whole xs k (omega arith)

-- the first of what is left
pub drop_first : {X : Type 0} (xs : List X) (k : ℕ) (d : X) → k < length xs → drop k xs ≡ get_or xs k d ∷ drop (suc k) xs
drop_first [] k d below = absurd (omega arith)
drop_first (x ∷ xs) zero d below = refl
drop_first (x ∷ xs) (suc k) d below = drop_first xs k d (omega arith)

-- ---- one more at the end

pub last_pushed : {X : Type 0} (xs : List X) (x : X) → slice_get (xs ++ x ∷ []) (length xs) ≡ Some x
last_pushed [] x = refl
last_pushed (y ∷ xs) x = last_pushed xs x

pub length_more : {X : Type 0} (xs : List X) (x : X) → length (xs ++ x ∷ []) ≡ length xs + 1
length_more [] x = refl
length_more (y ∷ ys) x = omega (arith, length_more ys x)

pub read_last : (rows : List (List ℕ)) (row : List ℕ) → slice_index_or (rows ++ row ∷ []) (length rows) [] ≡ row
read_last [] row = refl
read_last (r ∷ rows) row = read_last rows row

pub read_more : (rows : List (List ℕ)) (row : List ℕ) (u : ℕ) → u < length rows → slice_index_or (rows ++ row ∷ []) u [] ≡ slice_index_or rows u []
read_more [] row u below = absurd (omega arith)
read_more (r ∷ rows) row zero below = refl
read_more (r ∷ rows) row (suc u) below = read_more rows row u (omega arith)

-- ---- which numbers are there

pub none_within : (items : List ℕ) (count : ℕ) → items ≡ [] → (k : ℕ) → has_number items k ≡ true → k < count
none_within items count nothing k is = absurd (let no : has_number [] k ≡ true = ap (λ (xs : List ℕ). has_number xs k) (sym nothing) ∙ is in cc)

-- what passes in a list, passes at each place of it
pub list_all_at : {X : Type 0} (p : X → Bool) (xs : List X) (k : ℕ) (x : X) → list_all p xs ≡ true → slice_get xs k ≡ Some x → p x ≡ true
list_all_at p [] k x all is = absurd (cc)
list_all_at p (y ∷ ys) zero x all is = let same : y ≡ x = cc in ap p (sym same) ∙ and_first (p y) (list_all p ys) all
list_all_at p (y ∷ ys) (suc k) x all is = list_all_at p ys k x (and_second (p y) (list_all p ys) all) is
