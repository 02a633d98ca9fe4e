-- The names and the parts of a plan's atoms and flows by their numbers.
use Rattle.std.proofs.Common.{◌≡◌, ℕ, ◌≤◌, List, [], length, false, Option, Some, None, refl, sym, ap, ◌∙◌}
use Rattle.std.specs.Prelude.{slice_get, option_map}
use Rattle.std.proofs.lemmas.List.{length-map}
use Rattle.std.proofs.lemmas.Option.{slice_get-map, slice_get_past}
use Rattle.tf_flow.specs.Plan.{PlanValue}
use Rattle.tf_flow.specs.Plan as numbering
use Rattle.tf_model.specs.Before.{Flow}
use Rattle.tf_model.specs.Laws as laws
use Rattle.tf_model.specs.Plan.{outline_of, is_task, atom_name}
use Rattle.tf_model.proofs.Told.{is_task_in}
use Rattle.tf_model.proofs.PlanLemmas.{atoms_counted}
use Rattle.tf_model.proofs.OutlineLemmas.{same_flows}
use Rattle.tf_report.specs.Lines.{name_of_flow, flow_name}

-- ---- atoms

pub atom_past : (plan : PlanValue) (a : ℕ) → length (numbering.atoms plan) ≤ a → [] ≡ atom_name (outline_of plan) a
atom_past plan a past = let none : slice_get (outline_of plan).atoms a ≡ None = slice_get_past (outline_of plan).atoms a (rw (← atoms_counted plan) past) in rw none refl

pub part_past : (plan : PlanValue) (a : ℕ) → length (numbering.atoms plan) ≤ a → is_task (outline_of plan) a ≡ false
part_past plan a past = ap is_task_in (slice_get_past (outline_of plan).atoms a (rw (← atoms_counted plan) past))

-- ---- flows

flow_told : (o : Option Flow) (name : List ℕ) → option_map laws.name_of_flow o ≡ Some name → name ≡ name_of_flow o
flow_told None name is = absurd (cc)
flow_told (Some f) name is = let same : laws.name_of_flow f ≡ name = cc in sym same

pub flow_named : (plan : PlanValue) (g : ℕ) (name : List ℕ) → slice_get (numbering.flows plan) g ≡ Some name → name ≡ flow_name (outline_of plan) g
unfolding flow_name
flow_named plan g name is = flow_told (slice_get (outline_of plan).flows g) name
    (sym (slice_get-map laws.name_of_flow (outline_of plan).flows g) ∙ (ap (λ (names : List (List ℕ)). slice_get names g) (same_flows plan) ∙ is))

pub flows_counted : (plan : PlanValue) → length (numbering.flows plan) ≡ length (outline_of plan).flows
flows_counted plan = ap length (sym (same_flows plan)) ∙ length-map (outline_of plan).flows laws.name_of_flow

pub flow_past : (plan : PlanValue) (g : ℕ) → length (numbering.flows plan) ≤ g → [] ≡ flow_name (outline_of plan) g
unfolding flow_name
flow_past plan g past = let none : slice_get (outline_of plan).flows g ≡ None = slice_get_past (outline_of plan).flows g (rw (← flows_counted plan) past) in rw none refl
