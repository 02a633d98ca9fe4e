-- What a folder tells after one read more.
use Rattle.std.proofs.Common.{◌≡◌, ℕ, Bool, true, false, ◌&&◌, List, [], ◌∷◌, ◌++◌, Option, Some, None, Vec, refl, sym, ap, subst, ◌∙◌}
use Rattle.std.proofs.lemmas.Slice.Eq.{bytes_eq-Decides}
use Rattle.std.specs.List.{list_all}
use Rattle.std.proofs.lemmas.List.Folds.{list_all-append}
use Rattle.tf_numbers.proofs.TruthLemmas.{and_first, and_second}
use Rattle.tf_ports.specs.Ports.{Contents, GivesBytes}
use Rattle.tf_ports.specs.Folder.{has_bytes, is_too_long, is_so, are_so, told_if, folder_told}

abbrev Sources : Type 0
Sources = List ℕ → Option (List ℕ)

-- a condition on what is told, which nothing told meets
if_so : (sources : Sources) (P : Contents → Type 0) (b : Bool) → P None → (b ≡ true → P (Some sources)) → P (told_if b sources)
if_so sources P true none some = some refl
if_so sources P false none some = none

these : (there : Option (List ℕ)) (bytes : List ℕ) → has_bytes there bytes ≡ true → there ≡ Some bytes
these None bytes so = absurd (cc)
these (Some found) bytes so = ap Some ((bytes_eq-Decides found bytes).0 so)

module _ {A Y : Type 0} (sources : Sources) (reads : List (List ℕ × Vec ℕ A)) (long : List (List ℕ × Y)) where
  -- of a list with one more the test of the last
  last : {X : Type 0} (test : X → Bool) (xs : List X) (x : X) → list_all test (xs ++ x ∷ []) ≡ true → test x ≡ true
  last test xs x all = and_first (test x) true (and_second (list_all test xs) (test x && true) (sym (list_all-append test xs (x ∷ [])) ∙ all))

  gives_last : (name : List ℕ) (bytes : Vec ℕ A) → GivesBytes (folder_told sources (reads ++ (name, bytes) ∷ []) long) name bytes.items
  gives_last name bytes = if_so sources (λ told. GivesBytes told name bytes.items) (are_so sources (reads ++ (name, bytes) ∷ []) long) tt (λ so.
      these (sources name) bytes.items (last (is_so sources) reads (name, bytes) (and_first (list_all (is_so sources) (reads ++ (name, bytes) ∷ [])) (list_all (λ x. is_too_long (sources x.0)) long) so)))

  pub gives_read : (name : List ℕ) (bytes : Vec ℕ A) (after : List (List ℕ × Vec ℕ A)) → after ≡ reads ++ (name, bytes) ∷ [] → GivesBytes (folder_told sources after long) name bytes.items
  gives_read name bytes after is = let P : List (List ℕ × Vec ℕ A) → Type 0 = λ all. GivesBytes (folder_told sources all long) name bytes.items in subst P (sym is) (gives_last name bytes)
