-- How often the atoms of a plan may try their flows.
use Rattle.std.proofs.Common.{◌≡◌, ℕ, ◌+◌, ◌<◌, ◌≤◌, length, Option, Some, None, sym, ap, ◌∙◌, subst, inl, inr, arith, slice_get}
use Rattle.std.specs.Prelude.{option_map}
use Rattle.std.proofs.lemmas.Bool.{cases_lt}
use Rattle.std.proofs.lemmas.Option.{slice_get_past}
use Rattle.tf_flow.specs.Plan.{PlanValue}
use Rattle.tf_flow.specs.Plan as numbering
use Rattle.tf_flow.specs.Outline.{Atom, Part, part_of}
use Rattle.tf_model.specs.Plan.{outline_of, count}
use Rattle.tf_model.specs.Retries.{kind_of_part}
use Rattle.tf_model.proofs.Told.{kind_in}
use Rattle.tf_bound.specs.Costs.{tries_of, tries_at}
use Rattle.tf_machine.specs.Tries.{HasFewTries}
use Rattle.tf_model.proofs.PlanLemmas.{atoms_counted}

tries_told : (plan : PlanValue) (a : ℕ) (p : Part) → numbering.part plan a ≡ Some p → tries_at (outline_of plan) a ≡ tries_of (kind_of_part p)
tries_told plan a p is = by (slice_get (outline_of plan).atoms a) is
  where
    by : (o : Option Atom) → option_map part_of o ≡ Some p → tries_of (kind_in o) ≡ tries_of (kind_of_part p)
    by None told = absurd (cc)
    by (Some x) told = let same : x.part ≡ p = cc in ap (λ (q : Part). tries_of (kind_of_part q)) same

-- one atom more
pub few_more : (plan : PlanValue) (k n : ℕ) (p : Part) → ((a : ℕ) → a < k → tries_at (outline_of plan) a < 65536) → numbering.part plan k ≡ Some p → n ≡ tries_of (kind_of_part p) → n < 65536
    → (a : ℕ) → a < k + 1 → tries_at (outline_of plan) a < 65536
few_more plan k n p each there is few a below = elim (cases_lt a k) [
  | inl before ↦ each a before
  | inr from ↦
      let same : k ≡ a = omega (arith, below, from) in
      subst (λ (b : ℕ). tries_at (outline_of plan) b < 65536) same (subst (λ (m : ℕ). m < 65536) (is ∙ sym (tries_told plan k p there)) few)
]

-- a number past the last atom's has one try
pub few_all : (plan : PlanValue) (k : ℕ) → length (numbering.atoms plan) ≤ k → ((a : ℕ) → a < k → tries_at (outline_of plan) a < 65536) → HasFewTries (outline_of plan)
few_all plan k all each a = elim (cases_lt a k) [
  | inl before ↦ each a before
  | inr from ↦
      let past : count (outline_of plan) ≤ a = (let counted = atoms_counted plan in omega (arith, counted, all, from)) in
      let one : tries_at (outline_of plan) a ≡ 1 = ap (λ (o : Option Atom). tries_of (kind_in o)) (slice_get_past (outline_of plan).atoms a past) in
      omega (arith, one)
]
