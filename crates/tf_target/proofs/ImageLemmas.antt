-- Numbers of a part that rise with those of the whole.
use Rattle.std.proofs.Common.{◌≡◌, ◌∙◌, ℕ, zero, suc, ◌<◌, ◌≤◌, List, [], ◌∷◌, ◌++◌, map, Bool, true, false, refl, sym, ap, inl, inr, arith}
use Rattle.std.specs.Prelude.{if◌then◌else◌}
use Rattle.std.proofs.lemmas.Bool.{cases_lt}
use Rattle.std.proofs.lemmas.List.{map-append}
use Rattle.tf_numbers.specs.Numbers.{any_below, which_below}
use Rattle.tf_numbers.proofs.BelowLemmas.{any_at, any_of, which_more}
use Rattle.tf_numbers.proofs.EquationLemmas.{ap2}
use Rattle.tf_numbers.proofs.NumberLemmas.{same_or_other}
use Rattle.tf_numbers.proofs.TruthLemmas.{same_truth, never_true}

-- the number of the whole is that of one of the part
pub record Image (at : ℕ → ℕ) (count a : ℕ) : Type 0 where
  pub number : ℕ
  pub below : number < count
  pub is : at number ≡ a

module _ (f : ℕ → ℕ) (few many : ℕ) (rises : (a b : ℕ) → a < b → f a < f b) (within : (a : ℕ) → a < few → f a < many) (past : many ≤ f few) where
  pub reflects : (a b : ℕ) → f a < f b → a < b
  reflects a b less = elim (cases_lt a b) [
    | inl is ↦ is
    | inr from ↦ elim (same_or_other a b) [
      | inl same ↦ absurd (omega (arith, less, ap f same))
      | inr other ↦ let more : b < a = omega (arith, from, other) in absurd (omega (arith, less, rises b a more))
    ]
  ]

  module _ (p q : ℕ → Bool) (same : (a : ℕ) → a < few → q (f a) ≡ p a) (only : (a : ℕ) → a < many → q a ≡ true → Image f few a) where
    pub any_image : any_below many q ≡ any_below few p
    any_image = same_truth (any_below many q) (any_below few p)
        (λ is. let found = any_at many q is in let image = only found.number found.below found.passes in
        any_of few p image.number image.below (sym (same image.number image.below) ∙ (ap q image.is ∙ found.passes)))
        (λ is. let found = any_at few p is in any_of many q (f found.number) (within found.number found.below) (same found.number found.below ∙ found.passes))

    which_up_to : (k : ℕ) → k ≤ few → f k ≤ many → which_below (f k) q ≡ map f (which_below k p)
    which_up_to zero le fits =
        which_more 0 (f 0) q (omega arith) (λ b from below. never_true (q b) (λ is. let image = only b (omega (arith, below, fits)) is in let less : image.number < 0 = reflects image.number 0 (omega (arith, image.is, below)) in absurd (omega (arith, less))))
    which_up_to (suc k) le fits =
        which_more (suc (f k)) (f (suc k)) q (omega (arith, rises k (suc k) (omega arith))) (λ b from below. never_true (q b) (λ is.
        let image = only b (omega (arith, below, fits)) is in
        let more : k < image.number = reflects k image.number (omega (arith, image.is, from)) in
        let less : image.number < suc k = reflects image.number (suc k) (omega (arith, image.is, below)) in
        absurd (omega (arith, more, less))))
        ∙ (ap2 (λ (xs ys : List ℕ). xs ++ ys) (which_up_to k (omega (arith, le)) (omega (arith, fits, rises k (suc k) (omega arith)))) (ap (λ b. if b then f k ∷ [] else []) (same k (omega (arith, le))) ∙ one_more (p k))
        ∙ sym (map-append f (which_below k p) (if p k then k ∷ [] else [])))
      where
        one_more : (b : Bool) → (if b then f k ∷ [] else []) ≡ map f (if b then k ∷ [] else [])
        one_more true = refl
        one_more false = refl

    pub which_image : which_below many q ≡ map f (which_below few p)
    which_image = by_count few refl
      where
        none_past : (k : ℕ) → k ≤ few → (b : ℕ) → b < many → ((j : ℕ) → j < few → f j ≡ b → ⊥) → q b ≡ false
        none_past k le b below none = never_true (q b) (λ is. let image = only b below is in none image.number image.below image.is)

        by_count : (n : ℕ) → few ≡ n → which_below many q ≡ map f (which_below few p)
        by_count zero is = which_more 0 many q (omega arith) (λ b from below. none_past few (omega arith) b below (λ j less e. absurd (omega (arith, less, is)))) ∙ sym (ap (λ (m : ℕ). map f (which_below m p)) is)
        by_count (suc n) is =
            let last : f n < many = within n (omega (arith, is)) in
            which_more (suc (f n)) many q (omega (arith, last)) (λ b from below. none_past few (omega arith) b below (λ j less e.
            let more : n < j = reflects n j (omega (arith, e, from)) in absurd (omega (arith, more, less, is))))
            ∙ (ap2 (λ (xs ys : List ℕ). xs ++ ys) (which_up_to n (omega (arith, is)) (omega (arith, last))) (ap (λ b. if b then f n ∷ [] else []) (same n (omega (arith, is))) ∙ one_more (p n))
            ∙ (sym (map-append f (which_below n p) (if p n then n ∷ [] else [])) ∙ sym (ap (λ (m : ℕ). map f (which_below m p)) is)))
          where
            one_more : (b : Bool) → (if b then f n ∷ [] else []) ≡ map f (if b then n ∷ [] else [])
            one_more true = refl
            one_more false = refl
