-- Which atoms a link with a decider leads to.
use Rattle.std.proofs.Common.{◌≡◌, ℕ, zero, suc, ◌+◌, List, [], ◌∷◌, ◌++◌, length, Bool, false, Some, None, sym, ap, ◌∙◌, subst, slice_get}
use Rattle.tf_model.specs.Plan.{Outline, count}
use Rattle.tf_model.specs.History.{Snapshot}
use Rattle.tf_model.specs.Readiness.{refused}
use Rattle.tf_numbers.proofs.ListLemmas.{length_more}
use Rattle.tf_machine.specs.Compiled.{AreDecided}

-- of the atoms below k it is told
pub record AreDecidedBelow (plan : Outline) (k : ℕ) (decided : List Bool) : Type 0 where
  pub as_many : length decided ≡ k
  pub never : (a : ℕ) → slice_get decided a ≡ Some false → (s : Snapshot) → refused plan s a ≡ None

more_at : (P : ℕ → Type 0) (xs : List Bool) (b : Bool) → ((a : ℕ) → slice_get xs a ≡ Some false → P a) → (b ≡ false → P (length xs)) → (a : ℕ) → slice_get (xs ++ b ∷ []) a ≡ Some false → P a
more_at P [] b each last zero is = last (let same : b ≡ false = cc in same)
more_at P [] b each last (suc a) is = absurd (cc)
more_at P (x ∷ xs) b each last zero is = each zero is
more_at P (x ∷ xs) b each last (suc a) is = more_at (λ (k : ℕ). P (suc k)) xs b (λ k told. each (suc k) told) last a is

pub one_decided : (plan : Outline) (k : ℕ) (xs ys : List Bool) (b : Bool) → AreDecidedBelow plan k xs → ys ≡ xs ++ b ∷ [] → (b ≡ false → (s : Snapshot) → refused plan s k ≡ None) → AreDecidedBelow plan (k + 1) ys
one_decided plan k xs ys b before is last = subst (AreDecidedBelow plan (k + 1)) (sym is) (record {
  as_many = length_more xs b ∙ ap (λ (n : ℕ). n + 1) before.as_many;
  never = more_at (λ (a : ℕ). (s : Snapshot) → refused plan s a ≡ None) xs b before.never (λ no s. subst (λ (n : ℕ). refused plan s n ≡ None) (sym before.as_many) (last no s));
})

pub all_decided : (plan : Outline) (k : ℕ) (xs : List Bool) → k ≡ count plan → AreDecidedBelow plan k xs → AreDecided plan xs
all_decided plan k xs all before = record { as_many = before.as_many ∙ all; never = before.never }
