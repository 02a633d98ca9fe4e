-- Names in lists and sets.
use Rattle.std.proofs.Common.{◌≡◌, ℕ, ◌+◌, ◌<◌, List, [], ◌∷◌, ◌++◌, Bool, true, false, cond, ◌||◌, length, take, get_or, map, filter, zero, suc, Option, Some, None, position, slice_get, refl, ap, sym, ◌∙◌, arith}
use Rattle.std.proofs.lemmas.List.{take_more}
use Rattle.std.proofs.lemmas.Cmp.{nat_list_eq_equiv}
use Rattle.std.proofs.lemmas.Bool.{false≢true}
use Rattle.std.proofs.lemmas.List.Folds.{list_any-append}
use Rattle.std.proofs.lemmas.List.Quantifiers.{position-Some}
use Rattle.std.specs.Cmp.Lexicographic.{bytes_decides}
use Rattle.std.specs.List.{list_any}
use Rattle.tf_flow.specs.Tree.{same_name, is_among, first_again, first_again_after, Place, name_at, is_atom, atom_names}
use Rattle.tf_numbers.proofs.TruthLemmas.{true_first, true_second}

or_as_cond : (b : Bool) → (b || false) ≡ cond b true false
or_as_cond true = refl
or_as_cond false = refl

or_before_cond : (b c d : Bool) → (b || cond c true d) ≡ cond c true (b || d)
or_before_cond true true d = refl
or_before_cond true false d = refl
or_before_cond false true d = refl
or_before_cond false false d = refl

-- whether a name is among names with one more at the end
pub any_push : (names : List (List ℕ)) (more name : List ℕ) → list_any (same_name name) (names ++ more ∷ []) ≡ cond (same_name more name) true (list_any (same_name name) names)
any_push [] more name = ap (λ (b : Bool). b || false) (nat_list_eq_equiv.symm name more) ∙ or_as_cond (same_name more name)
any_push (first ∷ names) more name = ap (λ (b : Bool). same_name name first || b) (any_push names more name) ∙ or_before_cond (same_name name first) (same_name more name) (list_any (same_name name) names)

-- the same at one more name of a list
pub any_more : (names : List (List ℕ)) (i : ℕ) (more name : List ℕ) → i < length names → more ≡ get_or names i more → cond (same_name more name) true (list_any (same_name name) (take i names)) ≡ list_any (same_name name) (take (i + 1) names)
any_more names i more name within is =
    sym (ap (list_any (same_name name)) (take_more names i more within ∙ ap (λ (m : List ℕ). take i names ++ m ∷ []) (sym is)) ∙ any_push (take i names) more name)

-- each of these names is among those
record IsWithin (few all : List (List ℕ)) : Type 0 where
  held : (name : List ℕ) → is_among few name ≡ true → is_among all name ≡ true

or_both : (a b c d : Bool) → (a ≡ true → c ≡ true) → (b ≡ true → d ≡ true) → (a || b) ≡ true → (c || d) ≡ true
or_both true b c d left right is = true_first c d (left refl)
or_both false b c d left right is = true_second c d (right is)

within_more : (few all : List (List ℕ)) (more : List ℕ) → IsWithin few all → IsWithin few (all ++ more ∷ [])
within_more few all more within = record { held = λ name is. list_any-append (same_name name) all (more ∷ []) ∙ true_first (is_among all name) (is_among (more ∷ []) name) (within.held name is) }

within_both : (few all : List (List ℕ)) (more : List ℕ) → IsWithin few all → IsWithin (few ++ more ∷ []) (all ++ more ∷ [])
within_both few all more within = record {
  held = λ name is.
      list_any-append (same_name name) all (more ∷ [])
      ∙ or_both (is_among few name) (is_among (more ∷ []) name) (is_among all name) (is_among (more ∷ []) name) (within.held name) (λ e. e) (sym (list_any-append (same_name name) few (more ∷ [])) ∙ is);
}

not_among : (few all : List (List ℕ)) (name : List ℕ) → IsWithin few all → is_among all name ≡ false → is_among few name ≡ false
not_among few all name within is = by (is_among few name) (λ e. within.held name e)
  where
    by : (b : Bool) → (b ≡ true → is_among all name ≡ true) → b ≡ false
    by true h = absurd (false≢true (sym is ∙ h refl))
    by false h = refl

-- what the search for a name that stands twice found out of its first element
first_new : (b : Bool) (name : List ℕ) (rest : Option (List ℕ)) → cond b (Some name) rest ≡ None → (b ≡ false) × (rest ≡ None)
first_new true name rest is = cc
first_new false name rest is = (refl, is)

-- where no name stands twice, none does among some of the places
once_among : (keep : Place → Bool) (order : List Place) (few all : List (List ℕ)) → IsWithin few all → first_again_after same_name all (map name_at order) ≡ None → first_again_after same_name few (map name_at (filter keep order)) ≡ None
once_among keep [] few all within once = refl
once_among keep (place ∷ order) few all within once =
    let new = first_new (is_among all (name_at place)) (name_at place) (first_again_after same_name (all ++ name_at place ∷ []) (map name_at order)) once in
    elim (keep place) as (λ b. first_again_after same_name few (map name_at (cond b (place ∷ filter keep order) (filter keep order))) ≡ None) [
      | true ↦ rw (not_among few all (name_at place) within new.0) (once_among keep order (few ++ name_at place ∷ []) (all ++ name_at place ∷ []) (within_both few all (name_at place) within) new.1)
      | false ↦ once_among keep order few (all ++ name_at place ∷ []) (within_more few all (name_at place) within) new.1
    ]

pub atoms_once : (order : List Place) → first_again same_name (map name_at order) ≡ None → first_again same_name (atom_names order) ≡ None
atoms_once order once = once_among is_atom order [] [] (record { held = λ name is. is }) once

at_index : (names : List (List ℕ)) (i : ℕ) (d : List ℕ) → i < length names → slice_get names i ≡ Some (get_or names i d)
at_index [] i d within = absurd (omega arith)
at_index (name ∷ names) zero d within = refl
at_index (name ∷ names) (suc i) d within = at_index names i d (omega arith)

-- at the position of a name stands that name
pub at_position : (names : List (List ℕ)) (name : List ℕ) (i : ℕ) → position (same_name name) names ≡ Some i → slice_get names i ≡ Some name
at_position names name i is =
    let there = position-Some (same_name name) names i name is in
    at_index names i name there.0 ∙ ap (λ (n : List ℕ). Some n) (sym ((bytes_decides name (get_or names i name)).0 there.1))
