-- What stands behind one of two books that tell the same may stand behind the other.
use Rattle.std.proofs.Common.{◌≡◌, ◌<◌, List, [], ◌∷◌, ◌++◌, length, map, refl, sym, ap, ◌∙◌, subst, arith}
use Rattle.std.specs.Prelude.{nat_eq, if◌then◌else◌, ℕ}
use Rattle.std.proofs.lemmas.List.{map-append}
use Rattle.tf_flow.specs.Plan.{PlanValue, WrittenPlan}
use Rattle.tf_states.specs.declared.record.Entry.{Entry}
use Rattle.tf_model.specs.History.{snapshot}
use Rattle.tf_model.specs.Plan.{Outline, outline_of}
use Rattle.tf_model.specs.Steps.{Step}
use Rattle.tf_details.specs.Elements.{Element, detail, entry, details, history, detail_name, element_bytes, bodies_of, MayStand, IsLegalBook}
use Rattle.tf_details.specs.Whole.{plan_written, AreAlike}
use Rattle.tf_details.proofs.FormLemmas.{same_outline}
use Rattle.tf_details.proofs.OnceLemmas.{as_many, plan_alike, named_alike}

-- what may stand next
stands_alike : (x : Element) (a b : List Element) → AreAlike a b → MayStand b x → MayStand a x
stands_alike (detail p) a b alike may = record {
  accepted = may.accepted;
  limits = may.limits;
  runs = may.runs;
  few = (let many = as_many a b alike in let few = may.few in omega (arith, many, few));
  unnamed = named_alike a b (detail_name p) alike ∙ may.unnamed;
}
stands_alike (entry n e) a b alike may =
    let own = plan_alike a b n may.plan alike may.of_detail in
    record {
      plan = own.0;
      of_detail = own.1;
      step = subst (λ (o : Outline). Step o (snapshot o (history n a)) e) (sym (same_outline own.0 may.plan own.2))
          (subst (λ (l : List Entry). Step (outline_of may.plan) (snapshot (outline_of may.plan) l) e) (sym (alike.histories n)) may.step);
      form = may.form;
    }

-- with the same element behind them they tell the same
alike_on : (x : Element) (a b : List Element) → AreAlike a b → AreAlike (x ∷ a) (x ∷ b)
alike_on (detail p) a b alike = record {
  plans = map-append plan_written (details a) (p ∷ [])
      ∙ (ap (λ (l : List WrittenPlan). l ++ plan_written p ∷ []) alike.plans ∙ sym (map-append plan_written (details b) (p ∷ [])));
  histories = alike.histories;
}
alike_on (entry n e) a b alike = record {
  plans = alike.plans;
  histories = λ k. ap (λ (l : List Entry). if nat_eq n k then e ∷ l else l) (alike.histories k);
}

-- and with the same elements
pub grow_alike : (newer a b : List Element) → AreAlike a b → IsLegalBook a → IsLegalBook (newer ++ b) → IsLegalBook (newer ++ a) × AreAlike (newer ++ a) (newer ++ b)
grow_alike [] a b alike legal grown = (legal, alike)
grow_alike (x ∷ newer) a b alike legal grown =
    let rest = grow_alike newer a b alike legal grown.1 in
    ((stands_alike x (newer ++ a) (newer ++ b) rest.1 grown.0, rest.0), alike_on x (newer ++ a) (newer ++ b) rest.1)

-- their bodies are the same
pub same_bodies_on : (newer a b : List Element) → bodies_of a ≡ bodies_of b → bodies_of (newer ++ a) ≡ bodies_of (newer ++ b)
same_bodies_on [] a b same = same
same_bodies_on (x ∷ newer) a b same = ap (λ (l : List (List ℕ)). l ++ element_bytes x ∷ []) (same_bodies_on newer a b same)
