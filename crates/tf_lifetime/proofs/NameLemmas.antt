-- Names are the same or not.
use Rattle.std.proofs.Common.{◌≡◌, ◌≢◌, ◌⊎◌, ℕ, List, [], ◌∷◌, inl, inr, refl, ap, ◌∙◌, ⊎_elim}
use Rattle.std.proofs.lemmas.Bool.Decides.{eqb_tells}

-- numbers are
number_same : (a b : ℕ) → (a ≡ b) ⊎ (a ≢ b)
number_same a b = ⊎_elim (λ same. inl same.1) (λ apart. inr apart.1) (eqb_tells a b)

-- lists of numbers are
pub name_same : (a b : List ℕ) → (a ≡ b) ⊎ (a ≢ b)
name_same [] [] = inl refl
name_same [] (y ∷ ys) = inr (λ is. cc)
name_same (x ∷ xs) [] = inr (λ is. cc)
name_same (x ∷ xs) (y ∷ ys) = by (number_same x y) (name_same xs ys)
  where
    by : (x ≡ y) ⊎ (x ≢ y) → (xs ≡ ys) ⊎ (xs ≢ ys) → ((x ∷ xs) ≡ (y ∷ ys)) ⊎ ((x ∷ xs) ≢ (y ∷ ys))
    by (inl first) (inl rest) = inl (ap (λ (n : ℕ). n ∷ xs) first ∙ ap (λ (l : List ℕ). y ∷ l) rest)
    by (inr apart) rest = inr (λ is. apart (let same : x ≡ y = cc in same))
    by (inl first) (inr apart) = inr (λ is. apart (let same : xs ≡ ys = cc in same))
