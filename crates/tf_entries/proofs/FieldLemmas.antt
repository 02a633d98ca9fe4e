-- Truth values, numbers that stand for something and lists are read where they stand, and only where they
-- stand.
use Rattle.std.proofs.Common.{◌≡◌, ℕ, ◌<◌, ◌^◌, List, [], ◌∷◌, ◌++◌, length, Bool, true, false, Option, Some, None, refl, sym, ap, subst, ◌∙◌, append_assoc, w16}
use Rattle.std.specs.Int.{to_be_bytes}
use Rattle.std.specs.List.{flat_map}
use Rattle.tf_entries.specs.AtomReading.{truth_of, read_truth}
use Rattle.tf_entries.specs.Plans.{truth_byte, listed, AreFew}
use Rattle.tf_entries.specs.Reading.{numbered, read_many, read_list}
use Rattle.tf_entries.proofs.NumberLemmas.{number_16}
use Rattle.tf_entries.proofs.ReadingLemmas.{Reads, same_read, began, went_past, on_tag, no_tag, many_again, many_sound}

-- ---- numbers that stand for something

module _ {X : Type 0} (number : X → ℕ) (of : ℕ → Option X) (back : (x : X) → of (number x) ≡ Some x) (there : (n : ℕ) (x : X) → of n ≡ Some x → n ≡ number x)
    (read : List ℕ → Option (X × List ℕ)) (nothing : read [] ≡ None) (first : (n : ℕ) (rest : List ℕ) → read (n ∷ rest) ≡ numbered (of n) rest) where
  numbered_is : (o : Option X) (rest : List ℕ) (x : X) (after : List ℕ) → numbered o rest ≡ Some (x, after) → (o ≡ Some x) × (rest ≡ after)
  numbered_is None rest x after is = absurd (cc)
  numbered_is (Some y) rest x after is = let same = same_read y x rest after is in (ap Some same.0, same.1)

  number_sound : (bytes : List ℕ) (x : X) (rest : List ℕ) → read bytes ≡ Some (x, rest) → Unit {0} × (bytes ≡ number x ∷ rest)
  number_sound [] x rest is = let no : ◌≡◌ {A = Option (X × List ℕ)} None (Some (x, rest)) = sym nothing ∙ is in absurd (cc)
  number_sound (n ∷ bytes) x rest is =
      let found = numbered_is (of n) bytes x rest (sym (first n bytes) ∙ is) in
      (tt, ap (λ (m : ℕ). m ∷ bytes) (there n x found.0) ∙ ap (λ more. number x ∷ more) found.1)

  pub number_read : Reads (λ x. number x ∷ []) (λ x. Unit {0}) read
  number_read = record { again = λ x rest good. first (number x) rest ∙ ap (λ o. numbered o rest) (back x); sound = number_sound }

-- the number of what was found
pub found_at : {X : Type 0} (number : X → ℕ) (y x : X) (n k : ℕ) → n ≡ k → number y ≡ k → Some y ≡ Some x → n ≡ number x
found_at number y x n k at is found = let same : y ≡ x = cc in at ∙ sym is ∙ ap number same

truth_back : (b : Bool) → truth_of (truth_byte b) ≡ Some b
truth_back false = refl
truth_back true = refl

truth_there : (n : ℕ) (b : Bool) → truth_of n ≡ Some b → n ≡ truth_byte b
truth_there n b is =
    on_tag (n ≡ truth_byte b) n 0 _ _ b is (λ at found. found_at truth_byte false b n 0 at refl found)
    (λ is1. on_tag (n ≡ truth_byte b) n 1 _ _ b is1 (λ at found. found_at truth_byte true b n 1 at refl found)
    (no_tag (n ≡ truth_byte b) b))

pub truth_read : Reads (λ b. truth_byte b ∷ []) (λ b. Unit {0}) read_truth
truth_read = number_read truth_byte truth_of truth_back truth_there read_truth refl (λ n rest. refl)

-- ---- lists

pub list_read : {X : Type 0} {form : X → List ℕ} {Good : X → Type 0} {read : List ℕ → Option (X × List ℕ)} → Reads form Good read → Reads (listed form) (AreFew Good) (read_list read)
list_read {X} {form} {Good} {read} code = record {
  again = λ xs rest good. went_past number_16 (λ count more. read_many read count more) (length xs) (flat_map form xs) rest good.0 ∙ many_again code xs rest good.1;
  sound = λ bytes xs rest is.
      let b = began number_16 (λ count more. read_many read count more) bytes xs rest is in
      let many = many_sound code b.first b.behind xs rest b.goes in (
        (subst (λ (n : ℕ). n < 2 ^ 16) (sym many.counted) b.good, many.good),
        b.prefix ∙ ap (λ (n : ℕ). to_be_bytes w16 n ++ b.behind) (sym many.counted) ∙ ap (λ more. to_be_bytes w16 (length xs) ++ more) many.prefix ∙ sym (append_assoc (to_be_bytes w16 (length xs)) (flat_map form xs) rest),
      );
}
