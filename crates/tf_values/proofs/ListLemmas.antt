-- Equal lists, and a test that can't be both true and false.
use Rattle.std.proofs.Common.{◌≡◌, ◌≢◌, ℕ, List, ◌∷◌, length, get_or, Bool, true, false, sym, ap, ◌∙◌, arith}

pub heads : (a b : ℕ) (xs ys : List ℕ) → a ∷ xs ≡ b ∷ ys → a ≡ b
heads a b xs ys e = cc

pub tails : (a b : ℕ) (xs ys : List ℕ) → a ∷ xs ≡ b ∷ ys → xs ≡ ys
tails a b xs ys e = cc

pub same_heads : (xs ys : List ℕ) → xs ≡ ys → get_or xs 0 0 ≡ get_or ys 0 0
same_heads xs ys e = ap (λ (zs : List ℕ). get_or zs 0 0) e

pub differ : (test : Bool) → test ≡ false → test ≡ true → ⊥
differ test is_false is_true = cc

-- a list that begins otherwise
pub otherwise : (first other : ℕ) (after xs : List ℕ) → xs ≡ first ∷ after → first ≢ other → (rest : List ℕ) → xs ≢ other ∷ rest
otherwise first other after xs is differs rest e = differs (heads first other after rest (sym is ∙ e))

-- an empty list begins with nothing
pub empty_begins_none : (xs : List ℕ) → length xs ≡ 0 → (n : ℕ) (rest : List ℕ) → xs ≢ n ∷ rest
empty_begins_none xs empty n rest e = let lens : length xs ≡ length (n ∷ rest) = ap length e in absurd (omega arith)
