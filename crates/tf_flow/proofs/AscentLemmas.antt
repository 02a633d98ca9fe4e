-- Names in byte order stand once.
use Rattle.std.proofs.Common.{◌≡◌, ℕ, List, [], ◌∷◌, ◌++◌, Bool, true, false, ◌||◌, Ordering, Less, Equal, Greater, None, Option, is_some, refl, ap, ◌∙◌, subst}
use Rattle.std.proofs.lemmas.Bool.{false≢true}
use Rattle.std.proofs.lemmas.Cmp.{nat_list_cmp_total}
use Rattle.std.proofs.lemmas.List.Folds.{list_any-append}
use Rattle.std.specs.Cmp.Lexicographic.{slice_cmp, bytes_decides}
use Rattle.std.specs.Ordering.{nat_cmp, ordering_reverse}
use Rattle.tf_numbers.proofs.TruthLemmas.{and_first, and_second}
use Rattle.tf_flow.specs.Ascending.{is_less, comes_before, ascend_from, ascend}
use Rattle.tf_flow.specs.Tree.{same_name, is_among, first_again_after, has_twice}

less_is : (o : Ordering) → is_less o ≡ true → o ≡ Less
less_is Less is = refl
less_is Equal is = absurd (false≢true is)
less_is Greater is = absurd (false≢true is)

-- what is the same turned round is not before
not_less : (o : Ordering) → o ≡ ordering_reverse o → o ≡ Less → true ≡ false
not_less Less turned less = cc
not_less Equal turned less = cc
not_less Greater turned less = cc

differs_by : (a b : List ℕ) (same : Bool) → same_name b a ≡ same → slice_cmp nat_cmp a b ≡ Less → same ≡ false
differs_by a b false is less = refl
differs_by a b true is less =
    let equal : b ≡ a = (bytes_decides b a).0 is in
    let itself : slice_cmp nat_cmp a a ≡ Less = subst (λ (c : List ℕ). slice_cmp nat_cmp a c ≡ Less) equal less in
    not_less (slice_cmp nat_cmp a a) (nat_list_cmp_total.antisymm a a) itself

-- a name is another than one before it
differs : (a b : List ℕ) → slice_cmp nat_cmp a b ≡ Less → same_name b a ≡ false
differs a b less = differs_by a b (same_name b a) refl less

-- no name behind the last one is among those seen
record IsAbove (seen : List (List ℕ)) (last : List ℕ) : Type 0 where
  held : (name : List ℕ) → slice_cmp nat_cmp last name ≡ Less → is_among seen name ≡ false

neither : (a b : Bool) → a ≡ false → b ≡ false → (a || (b || false)) ≡ false
neither true b first second = first
neither false true first second = second
neither false false first second = refl

above_one : (first : List ℕ) → IsAbove (first ∷ []) first
above_one first = record { held = λ name less. neither false (same_name name first) refl (differs first name less) }

above_more : (seen : List (List ℕ)) (last name : List ℕ) → slice_cmp nat_cmp last name ≡ Less → IsAbove seen last → IsAbove (seen ++ name ∷ []) name
above_more seen last name less above = record {
  held = λ other more.
      list_any-append (same_name other) seen (name ∷ [])
      ∙ neither (is_among seen other) (same_name other name) (above.held other (nat_list_cmp_total.trans last name other less more)) (differs name other more);
}

once_from : (names seen : List (List ℕ)) (last : List ℕ) → IsAbove seen last → ascend_from last names ≡ true → first_again_after same_name seen names ≡ None
once_from [] seen last above up = refl
once_from (name ∷ names) seen last above up =
    let less : slice_cmp nat_cmp last name ≡ Less = less_is (slice_cmp nat_cmp last name) (and_first (comes_before last name) (ascend_from name names) up) in
    rw (above.held name less) (once_from names (seen ++ name ∷ []) name (above_more seen last name less above) (and_second (comes_before last name) (ascend_from name names) up))

-- where each name comes behind the one before it, none stands twice
pub ascend_once : (names : List (List ℕ)) → ascend names ≡ true → has_twice names ≡ false
ascend_once [] up = refl
ascend_once (name ∷ names) up = ap (λ (o : Option (List ℕ)). is_some o) (once_from names (name ∷ []) name (above_one name) up)
