-- Lists that are gone through.
use Rattle.std.proofs.Common.{◌≡◌, ℕ, zero, suc, ◌+◌, ◌<◌, ◌≤◌, List, [], ◌∷◌, ◌++◌, length, take, drop, Bool, true, false, not, Option, Some, None, refl, sym, ap, ◌∙◌, arith, slice_index_or, subst}
use Rattle.std.specs.Prelude.{cond, nat_eq, reverse, take_while, slice_get}
use Rattle.std.specs.List.{position_from}
use Rattle.std.specs.Option.{option_or}
use Rattle.std.proofs.lemmas.List.Sums.{take_while-cons}
use Rattle.std.proofs.lemmas.List.{reverse-append}
use Rattle.tf_flow.specs.Tree.{first_some}
use Rattle.tf_scopes.specs.Standing.{is_one, is_other}

-- ---- what stands before a number

record FrontFrom (y : ℕ) (xs : List ℕ) (i place : ℕ) : Type 0 where
  count : ℕ
  is : place ≡ i + count
  within : count ≤ length xs
  front : take count xs ≡ take_while (is_other y) xs

abbrev Front : ℕ → List ℕ → ℕ → Option ℕ → Type 0
Front y xs i None = xs ≡ take_while (is_other y) xs
Front y xs i (Some place) = FrontFrom y xs i place

one_kept : (y x : ℕ) (xs : List ℕ) (b : Bool) → is_one y x ≡ b → take_while (is_other y) (x ∷ xs) ≡ cond (not b) (x ∷ take_while (is_other y) xs) []
one_kept y x xs b is = take_while-cons (is_other y) x xs ∙ ap (λ (on : Bool). cond (not on) (x ∷ take_while (is_other y) xs) []) is

front_either : (y x : ℕ) (xs : List ℕ) (i : ℕ) (o : Option ℕ) (b : Bool) → is_one y x ≡ b → Front y xs (i + 1) o → Front y (x ∷ xs) i (cond b (Some i) o)
front_either y x xs i o true is rest = record { count = 0; is = omega arith; within = omega arith; front = sym (one_kept y x xs true is) }
front_either y x xs i None false is rest = ap (λ (ys : List ℕ). x ∷ ys) rest ∙ sym (one_kept y x xs false is)
front_either y x xs i (Some place) false is rest = record {
  count = suc rest.count;
  is = let there = rest.is in omega (arith, there);
  within = let below = rest.within in omega (arith, below);
  front = ap (λ (ys : List ℕ). x ∷ ys) rest.front ∙ sym (one_kept y x xs false is);
}

front_from : (y : ℕ) (xs : List ℕ) (i : ℕ) → Front y xs i (position_from (is_one y) i xs)
front_from y [] i = refl
front_from y (x ∷ xs) i = front_either y x xs i (position_from (is_one y) (i + 1) xs) (is_one y x) refl (front_from y xs (i + 1))

front_by : (y : ℕ) (xs : List ℕ) (o : Option ℕ) → position_from (is_one y) 0 xs ≡ o → Front y xs 0 o
front_by y xs o is = subst (λ (found : Option ℕ). Front y xs 0 found) is (front_from y xs 0)

-- the place of a number is within the list, and those in front of it stand before it
pub front_here : (y : ℕ) (xs : List ℕ) (place : ℕ) → position_from (is_one y) 0 xs ≡ Some place → (place ≤ length xs) × (take place xs ≡ take_while (is_other y) xs)
front_here y xs place is =
    let at = front_by y xs (Some place) is in
    let there = at.is in
    let below = at.within in
    let same : place ≡ at.count = omega (arith, there) in
    (omega (arith, there, below), ap (λ (n : ℕ). take n xs) same ∙ at.front)

-- a number that isn't in the list stands behind all
pub front_whole : (y : ℕ) (xs : List ℕ) → position_from (is_one y) 0 xs ≡ None → xs ≡ take_while (is_other y) xs
front_whole y xs is = front_by y xs None is

-- the first place of a number from one element earlier on
pub place_before : (y : ℕ) (xs : List ℕ) (k i next : ℕ) → k < length xs → next ≡ i + 1
    → cond (nat_eq (slice_index_or xs k 0) y) (Some i) (position_from (is_one y) next (drop (suc k) xs)) ≡ position_from (is_one y) i (drop k xs)
place_before y [] k i next below is = absurd (omega arith)
place_before y (x ∷ xs) zero i next below is = ap (λ (n : ℕ). cond (nat_eq x y) (Some i) (position_from (is_one y) n xs)) is
place_before y (x ∷ xs) (suc k) i next below is = place_before y xs k i next (omega arith) is

-- ---- one more of the first so many

pub take_more : (xs : List ℕ) (k : ℕ) → k < length xs → take (suc k) xs ≡ take k xs ++ slice_index_or xs k 0 ∷ []
take_more [] k below = absurd (omega arith)
take_more (x ∷ xs) zero below = refl
take_more (x ∷ xs) (suc k) below = ap (λ (ys : List ℕ). x ∷ ys) (take_more xs k (omega arith))

-- ---- the last comes first backwards

pub reverse_both : (xs : List ℕ) (y : ℕ) → reverse (xs ++ y ∷ []) ≡ y ∷ reverse xs
reverse_both xs y = reverse-append xs (y ∷ [])

-- ---- the first that gives something

pub first_kept : {X Y : Type 0} (give : X → Option Y) (xs : List X) (k : ℕ) (x : X) → slice_get xs k ≡ Some x → give x ≡ None → first_some give (drop k xs) ≡ first_some give (drop (suc k) xs)
first_kept give [] k x is none = absurd (cc)
first_kept {X} {Y} give (x ∷ xs) zero y is none = let same : x ≡ y = cc in ap (λ (o : Option Y). option_or o (first_some give xs)) (ap give same ∙ none)
first_kept give (x ∷ xs) (suc k) y is none = first_kept give xs k y is none

pub first_here : {X Y : Type 0} (give : X → Option Y) (xs : List X) (k : ℕ) (x : X) (y : Y) → slice_get xs k ≡ Some x → give x ≡ Some y → first_some give (drop k xs) ≡ Some y
first_here give [] k x y is there = absurd (cc)
first_here {X} {Y} give (x ∷ xs) zero z y is there = let same : x ≡ z = cc in ap (λ (o : Option Y). option_or o (first_some give xs)) (ap give same ∙ there)
first_here give (x ∷ xs) (suc k) z y is there = first_here give xs k z y is there

pub first_end : {X Y : Type 0} (give : X → Option Y) (xs : List X) (k : ℕ) → length xs ≤ k → first_some give (drop k xs) ≡ None
first_end give [] zero whole = refl
first_end give [] (suc k) whole = refl
first_end give (x ∷ xs) zero whole = absurd (omega arith)
first_end give (x ∷ xs) (suc k) whole = first_end give xs k (omega arith)

pub number_there : (xs : List ℕ) (k : ℕ) → k < length xs → slice_get xs k ≡ Some (slice_index_or xs k 0)
number_there [] k below = absurd (omega arith)
number_there (x ∷ xs) zero below = refl
number_there (x ∷ xs) (suc k) below = number_there xs k (omega arith)
