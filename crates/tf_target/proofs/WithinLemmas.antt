-- Lists of which some elements are left out.
use Rattle.std.proofs.Common.{◌≡◌, ◌∙◌, ℕ, ◌+◌, ◌≤◌, List, [], ◌∷◌, ◌++◌, Bool, true, false, Option, None, Some, map, filter, length, refl, ap, arith}
use Rattle.std.proofs.lemmas.List.Sums.{sum_by-cons}
use Rattle.std.specs.List.{list_any, sum_by}
use Rattle.std.specs.Option.{option_or}
use Rattle.std.specs.Prelude.{if◌then◌else◌}
use Rattle.tf_flow.specs.Tree.{first_some, first_again, first_again_after}
use Rattle.tf_numbers.proofs.OptionLemmas.{neither_there}
use Rattle.tf_numbers.proofs.TruthLemmas.{neither, neither_first, neither_second}

-- the first list is the second, of which some elements may be left out
pub data Within {X : Type 0} : List X → List X → Type 0 where
  none_left : Within [] []
  left_in : (x : X) (xs ys : List X) → Within xs ys → Within (x ∷ xs) (x ∷ ys)
  left_out : (y : X) (xs ys : List X) → Within xs ys → Within xs (y ∷ ys)

pub within_itself : {X : Type 0} (xs : List X) → Within xs xs
within_itself [] = none_left
within_itself (x ∷ xs) = left_in x xs xs (within_itself xs)

pub within_nothing : {X : Type 0} (ys : List X) → Within [] ys
within_nothing [] = none_left
within_nothing (y ∷ ys) = left_out y [] ys (within_nothing ys)

pub within_prefix : {X : Type 0} (zs xs ys : List X) → Within xs ys → Within (zs ++ xs) (zs ++ ys)
within_prefix [] xs ys within = within
within_prefix (z ∷ zs) xs ys within = left_in z (zs ++ xs) (zs ++ ys) (within_prefix zs xs ys within)

pub within_behind : {X : Type 0} (zs xs ys : List X) → Within xs ys → Within xs (zs ++ ys)
within_behind [] xs ys within = within
within_behind (z ∷ zs) xs ys within = left_out z xs (zs ++ ys) (within_behind zs xs ys within)

pub within_push : {X : Type 0} (z : X) (xs ys : List X) → Within xs ys → Within (xs ++ z ∷ []) (ys ++ z ∷ [])
within_push z xs ys none_left = left_in z [] [] none_left
within_push z _ _ (left_in x xs ys within) = left_in x (xs ++ z ∷ []) (ys ++ z ∷ []) (within_push z xs ys within)
within_push z _ _ (left_out y xs ys within) = left_out y (xs ++ z ∷ []) (ys ++ z ∷ []) (within_push z xs ys within)

pub within_more : {X : Type 0} (z : X) (xs ys : List X) → Within xs ys → Within xs (ys ++ z ∷ [])
within_more z xs ys none_left = left_out z [] [] none_left
within_more z _ _ (left_in x xs ys within) = left_in x xs (ys ++ z ∷ []) (within_more z xs ys within)
within_more z _ _ (left_out y xs ys within) = left_out y xs (ys ++ z ∷ []) (within_more z xs ys within)

pub within_map : {X Y : Type 0} (f : X → Y) (xs ys : List X) → Within xs ys → Within (map f xs) (map f ys)
within_map f xs ys none_left = none_left
within_map f _ _ (left_in x xs ys within) = left_in (f x) (map f xs) (map f ys) (within_map f xs ys within)
within_map f _ _ (left_out y xs ys within) = left_out (f y) (map f xs) (map f ys) (within_map f xs ys within)

pub within_filter : {X : Type 0} (test : X → Bool) (xs ys : List X) → Within xs ys → Within (filter test xs) (filter test ys)
within_filter test xs ys none_left = none_left
within_filter test _ _ (left_in x xs ys within) = either (test x) (within_filter test xs ys within)
  where
    either : (b : Bool) → Within (filter test xs) (filter test ys) → Within (if b then x ∷ filter test xs else filter test xs) (if b then x ∷ filter test ys else filter test ys)
    either true rest = left_in x (filter test xs) (filter test ys) rest
    either false rest = rest
within_filter test _ _ (left_out y xs ys within) = either (test y) (within_filter test xs ys within)
  where
    either : (b : Bool) → Within (filter test xs) (filter test ys) → Within (filter test xs) (if b then y ∷ filter test ys else filter test ys)
    either true rest = left_out y (filter test xs) (filter test ys) rest
    either false rest = rest

-- what a filter keeps
pub filter_within : {X : Type 0} (test : X → Bool) (xs : List X) → Within (filter test xs) xs
filter_within test [] = none_left
filter_within test (x ∷ xs) = either (test x) (filter_within test xs)
  where
    either : (b : Bool) → Within (filter test xs) xs → Within (if b then x ∷ filter test xs else filter test xs) (x ∷ xs)
    either true rest = left_in x (filter test xs) xs rest
    either false rest = left_out x (filter test xs) xs rest

-- ---- what is counted is no more

pub shorter : {X : Type 0} (xs ys : List X) → Within xs ys → length xs ≤ length ys
shorter xs ys none_left = omega arith
shorter _ _ (left_in x xs ys within) = omega (arith, shorter xs ys within)
shorter _ _ (left_out y xs ys within) = omega (arith, shorter xs ys within)

pub lesser_sum : {X : Type 0} (f : X → ℕ) (xs ys : List X) → Within xs ys → sum_by f xs ≤ sum_by f ys
lesser_sum f xs ys none_left = omega arith
lesser_sum f _ _ (left_in x xs ys within) = omega (arith, sum_by-cons f x xs, sum_by-cons f x ys, lesser_sum f xs ys within)
lesser_sum f _ _ (left_out y xs ys within) = omega (arith, sum_by-cons f y ys, lesser_sum f xs ys within)

-- ---- what nothing gave, nothing gives

pub still_nothing : {X Y : Type 0} (f : X → Option Y) (xs ys : List X) → Within xs ys → first_some f ys ≡ None → first_some f xs ≡ None
still_nothing f xs ys none_left none = refl
still_nothing f _ _ (left_in x xs ys within) none =
    let both = neither_there (f x) (first_some f ys) none in
    ap (λ o. option_or o (first_some f xs)) both.0 ∙ still_nothing f xs ys within both.1
still_nothing f _ _ (left_out y xs ys within) none = still_nothing f xs ys within (neither_there (f y) (first_some f ys) none).1

pub still_no_element : {X : Type 0} (p : X → Bool) (xs ys : List X) → Within xs ys → list_any p ys ≡ false → list_any p xs ≡ false
still_no_element p xs ys none_left none = refl
still_no_element p _ _ (left_in x xs ys within) none =
    neither (p x) (list_any p xs) (neither_first (p x) (list_any p ys) none) (still_no_element p xs ys within (neither_second (p x) (list_any p ys) none))
still_no_element p _ _ (left_out y xs ys within) none = still_no_element p xs ys within (neither_second (p y) (list_any p ys) none)

again_none : {X : Type 0} (b : Bool) (x : X) (rest : Option X) → (if b then Some x else rest) ≡ None → (b ≡ false) × (rest ≡ None)
again_none true x rest none = absurd (cc)
again_none false x rest none = (refl, none)

none_again : {X : Type 0} (b : Bool) (x : X) (rest : Option X) → b ≡ false → rest ≡ None → (if b then Some x else rest) ≡ None
none_again true x rest is none = absurd (cc)
none_again false x rest is none = none

pub still_once_after : {X : Type 0} (same : X → X → Bool) (seen all xs ys : List X) → Within seen all → Within xs ys → first_again_after same all ys ≡ None → first_again_after same seen xs ≡ None
still_once_after same seen all xs ys among none_left none = refl
still_once_after same seen all _ _ among (left_in x xs ys within) none =
    let parts = again_none (list_any (same x) all) x (first_again_after same (all ++ x ∷ []) ys) none in
    none_again (list_any (same x) seen) x (first_again_after same (seen ++ x ∷ []) xs) (still_no_element (same x) seen all among parts.0)
    (still_once_after same (seen ++ x ∷ []) (all ++ x ∷ []) xs ys (within_push x seen all among) within parts.1)
still_once_after same seen all _ _ among (left_out y xs ys within) none =
    let parts = again_none (list_any (same y) all) y (first_again_after same (all ++ y ∷ []) ys) none in
    still_once_after same seen (all ++ y ∷ []) xs ys (within_more y seen all among) within parts.1

-- what stood nowhere twice, doesn't now
pub still_once : {X : Type 0} (same : X → X → Bool) (xs ys : List X) → Within xs ys → first_again same ys ≡ None → first_again same xs ≡ None
still_once same xs ys within none = still_once_after same [] [] xs ys none_left within none
