-- Lists in which nothing is found.
use Rattle.std.proofs.Common.{◌≡◌, ℕ, zero, suc, List, [], ◌∷◌, ◌++◌, Bool, true, false, Option, None, refl, ap, ◌∙◌, map}
use Rattle.std.specs.Prelude.{filter, reverse, flat_map}
use Rattle.std.specs.List.{list_any, AllByRecursion}
use Rattle.std.specs.Option.{option_or}
use Rattle.std.proofs.lemmas.List.Folds.{list_any-append}
use Rattle.std.proofs.lemmas.List.{reverse-append}
use Rattle.tf_flow.specs.Tree.{first_some}
use Rattle.tf_numbers.specs.Numbers.{which_below, numbers_below, pair, pairs_from, pairs_below}
use Rattle.tf_numbers.proofs.ListLemmas.{filter_append}
use Rattle.tf_numbers.proofs.TruthLemmas.{true_second}

pub none_of_two : {X : Type 0} (a b : Option X) → a ≡ None → b ≡ None → option_or a b ≡ None
none_of_two a b first second = rw (first, second) refl

pub none_given : {X Y : Type 0} (give : X → Option Y) (xs : List X) → ((x : X) → give x ≡ None) → first_some give xs ≡ None
none_given give [] each = refl
none_given give (x ∷ xs) each = none_of_two (give x) (first_some give xs) (each x) (none_given give xs each)

pub none_among : {X Y : Type 0} (give : X → Option Y) (xs : List X) → AllByRecursion (λ x. give x ≡ None) xs → first_some give xs ≡ None
none_among give [] each = refl
none_among give (x ∷ xs) each = none_of_two (give x) (first_some give xs) each.0 (none_among give xs each.1)

pub never_passes : {X : Type 0} (test : X → Bool) (xs : List X) → ((x : X) → test x ≡ false) → list_any test xs ≡ false
never_passes test [] each = refl
never_passes test (x ∷ xs) each = rw (each x) (never_passes test xs each)

pub nothing_kept : {X : Type 0} (test : X → Bool) (xs : List X) → ((x : X) → test x ≡ false) → filter test xs ≡ []
nothing_kept test [] each = refl
nothing_kept test (x ∷ xs) each = rw (each x) (nothing_kept test xs each)

pub no_number : (n : ℕ) (test : ℕ → Bool) → ((k : ℕ) → test k ≡ false) → which_below n test ≡ []
no_number zero test each = refl
no_number (suc n) test each = rw (no_number n test each, each n) refl

pub nothing_mapped : {X Y : Type 0} (f : X → List Y) (xs : List X) → ((x : X) → f x ≡ []) → flat_map f xs ≡ []
nothing_mapped f [] each = refl
nothing_mapped f (x ∷ xs) each = rw (each x) (nothing_mapped f xs each)

pub no_pair : (n : ℕ) (test : ℕ → ℕ → Bool) → ((u v : ℕ) → test u v ≡ false) → pairs_below n test ≡ []
no_pair n test each = nothing_mapped (pairs_from n test) (numbers_below n) (λ u. ap (map (pair u)) (no_number n (test u) (each u)))

pub all_of_both : {X : Type 0} (P : X → Type 0) (xs ys : List X) → AllByRecursion P xs → AllByRecursion P ys → AllByRecursion P (xs ++ ys)
all_of_both P [] ys first second = second
all_of_both P (x ∷ xs) ys first second = (first.0, all_of_both P xs ys first.1 second)

-- the first of a list is the last of what is kept of the list in reverse, and so it is found there
pub found_last : (keep test : ℕ → Bool) (r : ℕ) (zs : List ℕ) → keep r ≡ true → test r ≡ true → list_any test (filter keep (reverse (r ∷ zs))) ≡ true
found_last keep test r zs kept passes =
    ap (λ (ys : List ℕ). list_any test (filter keep ys)) (reverse-append (r ∷ []) zs)
    ∙ (ap (list_any test) (filter_append keep (reverse zs) (r ∷ []))
    ∙ (list_any-append test (filter keep (reverse zs)) (filter keep (r ∷ []))
    ∙ true_second (list_any test (filter keep (reverse zs))) (list_any test (filter keep (r ∷ []))) (rw (kept, passes) refl)))
