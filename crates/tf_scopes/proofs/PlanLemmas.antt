-- What is before an atom is an atom.
use Rattle.std.proofs.Common.{◌≡◌, ℕ, ◌<◌, true, false, Option, sym, ap, ◌∙◌, slice_get, inl, inr}
use Rattle.std.proofs.lemmas.Bool.{cases_lt}
use Rattle.std.proofs.lemmas.Option.{slice_get_past}
use Rattle.tf_flow.specs.Plan as numbering
use Rattle.tf_flow.specs.Outline.{Atom}
use Rattle.tf_model.specs.Before.{path_before}
use Rattle.tf_model.specs.Plan.{Outline, count, path, is_before}
use Rattle.tf_model.proofs.Told.{path_in}

pub before_is_atom : (plan : Outline) (a b : ℕ) → is_before plan a b ≡ true → a < count plan
unfolding is_before
before_is_atom plan a b is = elim (cases_lt a (count plan)) [
  | inl below ↦ below
  | inr past ↦ let no : path_before plan.flows (path_in (slice_get plan.atoms a)) (path plan b) ≡ false = ap (λ (o : Option Atom). path_before plan.flows (path_in o) (path plan b)) (slice_get_past plan.atoms a past) in
      let clash : true ≡ false = sym is ∙ no in absurd (cc)
]
