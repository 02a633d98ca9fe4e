-- How the flow of a book of one flow is read body by body, and what it is in a book of several flows.
use Rattle.std.proofs.Common.{◌≡◌, ◌≢◌, ◌⊎◌, ◌≤◌, ◌+◌, ℕ, List, [], ◌∷◌, ◌++◌, length, Some, None, inl, inr, refl, sym, ap, ◌∙◌, subst, arith, length-append}
use Rattle.tf_flow.specs.Plan.{PlanValue}
use Rattle.tf_states.specs.declared.record.Entry.{Entry}
use Rattle.tf_model.specs.History.{snapshot}
use Rattle.tf_model.specs.Plan.{outline_of}
use Rattle.tf_model.specs.Steps.{Step}
use Rattle.tf_entries.specs.Heads.{head_bytes}
use Rattle.tf_entries.specs.Plans.{plan_bytes}
use Rattle.tf_entries.specs.declared.heads.Head.TheVariants as head
use Rattle.tf_machine.specs.Machine.{MachineValue, StandsFor}
use Rattle.tf_details.specs.Elements.{Element, detail, entry as an_entry, plan_of, history, number_among, element_bytes, IsHistoryOf, IsLegalBook, IsNoStep, IsNoEntry, no_detail, no_step}
use Rattle.tf_details.specs.Reading.{plans_in, AreMachinesOf}
use Rattle.tf_details.proofs.BookLemmas.{history_legal}
use Rattle.tf_details.proofs.MachineLemmas.{began, took, none_yet}
use Rattle.tf_migration.specs.Migrates.{old_bodies, carried, new_bodies, CannotFollow, later}
use Rattle.tf_migration.specs.Reading.{HasReadFlow, HasReadEntry}
use Rattle.tf_migration.specs.declared.flows.Flow.{Flow}

-- ---- a flow in a book of several

-- detail 0 has the plan
pub carried_plan : (plan : PlanValue) (past : List Entry) → plan_of (carried plan past) 0 ≡ Some plan
carried_plan plan [] = refl
carried_plan plan (e ∷ past) = carried_plan plan past

-- and the history
pub carried_past : (plan : PlanValue) (past : List Entry) → history 0 (carried plan past) ≡ past
carried_past plan [] = refl
carried_past plan (e ∷ past) = ap (λ (l : List Entry). e ∷ l) (carried_past plan past)

-- it makes a legal book
pub carried_legal : (plan : PlanValue) (past : List Entry) → IsHistoryOf plan past → IsLegalBook (carried plan past)
carried_legal plan [] h = (record { accepted = h.accepted; limits = h.limits; runs = h.runs; few = omega arith; unnamed = refl }, tt)
carried_legal plan (e ∷ past) h = (
  record {
    plan = plan;
    of_detail = carried_plan plan past;
    step = subst (λ (l : List Entry). Step (outline_of plan) (snapshot (outline_of plan) l) e) (sym (carried_past plan past)) h.legal.0;
    form = h.forms.0;
  },
  carried_legal plan past (record { accepted = h.accepted; limits = h.limits; runs = h.runs; legal = h.legal.1; forms = h.forms.1 }),
)

-- and such a book only a history that a book may hold
pub legal_history : (plan : PlanValue) (past : List Entry) → IsLegalBook (carried plan past) → IsHistoryOf plan past
legal_history plan past legal = subst (IsHistoryOf plan) (carried_past plan past) (history_legal (carried plan past) 0 plan legal (carried_plan plan past))

-- it has one body more than its history has entries
pub bodies_long : (plan : PlanValue) (past : List Entry) → length (new_bodies plan past) ≡ length past + 1
bodies_long plan [] = refl
bodies_long plan (e ∷ past) = omega (arith, bodies_long plan past, length-append (new_bodies plan past) (element_bytes (an_entry 0 e) ∷ []))

-- ---- how it is read

-- the plan was read
pub flow_begun : (flow : Flow) (form : List ℕ) (m : MachineValue) → plan_bytes m.plan ≡ form → IsHistoryOf m.plan [] → StandsFor m []
    → flow.details ≡ m ∷ [] → flow.bodies.items ≡ element_bytes (detail m.plan) ∷ [] → HasReadFlow flow (form ∷ [])
flow_begun flow form m form_is history fresh added kept =
    let now = began [] flow.details form [] tt (none_yet [] refl)
    (record { machine = m; form_is = form_is; history = history; fresh = fresh; few = omega arith; unnamed = refl; added = added }) in
    record {
      plan = m.plan;
      past = [];
      bodies_are = ap (λ (f : List ℕ). f ∷ []) (sym form_is);
      legal = now.0;
      machines_are = now.1;
      kept = kept;
    }

-- an entry more was read
pub flow_on : (old new : Flow) (before : List (List ℕ)) (form : List ℕ) → HasReadFlow old before → HasReadEntry old new form → HasReadFlow new (before ++ form ∷ [])
flow_on old new before form r g =
    let now = took old.details new.details 0 form g.e (carried r.plan r.past) r.legal r.machines_are g.read g.taken in
    record {
      plan = r.plan;
      past = g.e ∷ r.past;
      bodies_are = ap (λ (l : List (List ℕ)). l ++ form ∷ []) r.bodies_are ∙ ap (λ (f : List ℕ). old_bodies r.plan r.past ++ f ∷ []) (sym g.read.form_is);
      legal = now.0;
      machines_are = now.1;
      kept = g.kept ∙ ap (λ (l : List (List ℕ)). l ++ (head_bytes (head.Entry 0) ++ form) ∷ []) r.kept
          ∙ ap (λ (f : List ℕ). new_bodies r.plan r.past ++ (head_bytes (head.Entry 0) ++ f) ∷ []) (sym g.read.form_is);
    }

-- no entry that may follow was read
no_entry : (plan : PlanValue) (past : List Entry) (body : List ℕ) → IsNoEntry (carried plan past) 0 body → IsNoStep plan past body
no_entry plan past body (no_detail none) = let no = sym (carried_plan plan past) ∙ none in absurd (cc)
no_entry plan past body (no_step its of_detail none) =
    let some : Some its ≡ Some plan = sym of_detail ∙ carried_plan plan past in
    let same : its ≡ plan = cc in
    subst (λ (l : List Entry). IsNoStep plan l body) (carried_past plan past) (subst (λ (p : PlanValue). IsNoStep p (history 0 (carried plan past)) body) same none)

pub flow_refused : (flow : Flow) (before : List (List ℕ)) (body : List ℕ) → HasReadFlow flow before
    → ((book : List Element) → AreMachinesOf flow.details book → IsNoEntry book 0 body) → CannotFollow before body
flow_refused flow before body r refused =
    later r.plan r.past (legal_history r.plan r.past r.legal) r.bodies_are (no_entry r.plan r.past body (refused (carried r.plan r.past) r.machines_are))

-- the first detail of a book is never refused for those before it
pub none_before : (machines : List MachineValue) (name : List ℕ) → machines ≡ [] → (64 ≤ length machines) ⊎ (number_among (plans_in machines) name ≢ None) → ⊥
none_before machines name none (inl many) = omega (arith, many, ap length none)
none_before machines name none (inr taken) = taken (ap (λ (l : List MachineValue). number_among (plans_in l) name) none)
