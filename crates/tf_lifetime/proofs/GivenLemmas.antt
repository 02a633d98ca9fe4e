-- Which hands recorded the entries of calls, and which outcomes the ends of tasks among them carry.
use Rattle.std.proofs.Common.{◌≡◌, ◌<◌, ℕ, List, [], ◌∷◌, ◌++◌, reverse, true, false, Option, inl, inr, refl, ap, sym, ◌∙◌, subst, append_assoc}
use Rattle.std.proofs.lemmas.Bool.{and_parts, ltb-true}
use Rattle.std.specs.List.{list_all}
use Rattle.tf_ports.specs.declared.crews.Want.{Want}
use Rattle.tf_actions.specs.declared.orders.Order.{Order}
use Rattle.tf_actions.specs.declared.outcomes.Outcome.{Outcome}
use Rattle.tf_flow.specs.Plan.{PlanValue}
use Rattle.tf_states.specs.declared.record.Entry.{Entry}
use Rattle.tf_states.specs.declared.state.FlowState.{FlowState}
use Rattle.tf_states.specs.declared.state.FlowState.TheVariants as flow
use Rattle.tf_model.specs.History.{flow_of}
use Rattle.tf_model.specs.Plan.{Outline, outline_of}
use Rattle.tf_model.specs.Steps.{Session, already_ended, entered, halted, whole, entering, has_ended}
use Rattle.tf_book.specs.Turns.{AreReset, IsNextReset}
use Rattle.tf_book.specs.SessionInvariant.{MayFollow, nothing_more, one_more}
use Rattle.tf_engines.specs.Runs.{AreGiven, is_of}
use Rattle.tf_details.specs.Elements.{Contents}
use Rattle.tf_commands.specs.Books.{PutBack, MayRun, Ran}
use Rattle.tf_commands.specs.declared.running.Request.{Request}
use Rattle.tf_ports.specs.Ports.{wanted as number_of}
use Rattle.tf_lifetime.specs.Life.{IsRecordedBy, AreRecorded}

-- each entry that was recorded is such a one, and so is each that may be
pub record GivesAll (gives : Want → Order → Outcome → Type 0) (hired : ℕ → Want → Type 0) (may : List Entry → Entry → Type 0) (plan : PlanValue) (before entries : List Entry) : Type 0 where
  pub recorded : AreRecorded gives hired (outline_of plan) before entries
  pub next : (e : Entry) → may (entries ++ before) e → IsRecordedBy gives hired (outline_of plan) (entries ++ before) e

module _ (gives : Want → Order → Outcome → Type 0) (hired : ℕ → Want → Type 0) where
  -- entries behind others
  pub given_append : (plan : Outline) (past newer older : List Entry) → AreRecorded gives hired plan (older ++ past) newer → AreRecorded gives hired plan past older
      → AreRecorded gives hired plan past (newer ++ older)
  given_append plan past [] older on before = before
  given_append plan past (e ∷ newer) older on before =
      (subst (λ (l : List Entry). IsRecordedBy gives hired plan l e) (sym (append_assoc newer older past)) on.0, given_append plan past newer older on.1 before)

  -- the older ones of them
  pub given_older : (plan : Outline) (past lost kept : List Entry) → AreRecorded gives hired plan past (lost ++ kept) → AreRecorded gives hired plan past kept
  given_older plan past [] kept given = given
  given_older plan past (e ∷ lost) kept given = given_older plan past lost kept given.1

  -- with a pending one
  pub pending_given : (may : List Entry → Entry → Type 0) (plan : PlanValue) (before entries pending : List Entry) → GivesAll gives hired may plan before entries
      → MayFollow (may (entries ++ before)) plan (entries ++ before) pending → AreRecorded gives hired (outline_of plan) before (pending ++ entries)
  pending_given may plan before entries _ given nothing_more = given.recorded
  pending_given may plan before entries _ given (one_more e step form so) = (given.next e so, given.recorded)

  -- what puts a flow back
  put_back_given : (plan : Outline) (past : List Entry) (e : Entry) → IsNextReset plan past e → IsRecordedBy gives hired plan past e
  put_back_given plan past e next = inr next

  resets_given : (plan : Outline) (before entries : List Entry) → AreReset plan entries before → AreRecorded gives hired plan before entries
  resets_given plan before [] are = tt
  resets_given plan before (e ∷ entries) are = (put_back_given plan (entries ++ before) e (record { by = are.0; is = are.1 }), resets_given plan before entries are.2)

  -- what a run's hands recorded, where each of them was hired
  runs_given : (hands : Want) → ((n : ℕ) → n < number_of hands → hired n hands) → (plan : Outline) (before entries : List Entry) → AreGiven (gives hands) plan before entries
      → list_all (is_of (number_of hands)) entries ≡ true → AreRecorded gives hired plan before entries
  runs_given hands allow plan before [] given are = tt
  runs_given hands allow plan before (e ∷ entries) given are =
      let both = and_parts (is_of (number_of hands) e) (list_all (is_of (number_of hands)) entries) are in
      (inl (record { hands = hands; hires = allow e.hand (ltb-true e.hand (number_of hands) both.0); given = given.0 }), runs_given hands allow plan before entries given.1 both.1)

-- a run, for which its hands were hired
pub run_gives : {gives : Want → Order → Outcome → Type 0} {hired : ℕ → Want → Type 0} {request : Request} {asked : Type 0} {contents : Contents} {plan : PlanValue} {before entries : List Entry} {stop : Option FlowState}
    {shown now : Option (List ℕ)} {closing : List ℕ} {status : ℕ} → ((n : ℕ) → n < number_of request.want → hired n request.want)
    → Ran (gives request.want) request asked contents plan before entries stop shown now closing status → GivesAll gives hired (MayRun (gives request.want) request plan) plan before entries
run_gives {gives} {hired} {request} {plan = plan} {before} {entries} allow r = record {
  recorded = runs_given gives hired request.want allow (outline_of plan) before entries r.outcomes r.steps.hands;
  next = λ e may. inl (record { hands = request.want; hires = allow e.hand (ltb-true e.hand (number_of request.want) may.hand); given = may.given });
}

-- a run of a flow that had ended, which records nothing
nothing_entered : (state : FlowState) (some others : List Entry) → has_ended state ≡ true → entering state ≡ some ++ others → some ≡ []
nothing_entered flow.Success [] others ended is = refl
nothing_entered flow.Failure [] others ended is = refl
nothing_entered flow.Reverted [] others ended is = refl
nothing_entered flow.Success (e ∷ some) others ended is = absurd (cc)
nothing_entered flow.Failure (e ∷ some) others ended is = absurd (cc)
nothing_entered flow.Reverted (e ∷ some) others ended is = absurd (cc)
nothing_entered flow.Pending some others ended is = absurd (cc)
nothing_entered flow.Suspended some others ended is = absurd (cc)
nothing_entered flow.Running some others ended is = absurd (cc)
nothing_entered flow.Suspending some others ended is = absurd (cc)
nothing_entered flow.Resuming some others ended is = absurd (cc)

nothing_recorded : {plan : Outline} {before entries : List Entry} {stop : Option FlowState} → has_ended (flow_of before) ≡ true → Session plan before entries stop → entries ≡ []
nothing_recorded ended (already_ended is legal) = refl
nothing_recorded {before = before} ended (entered some others is legal) = ap (λ (l : List Entry). reverse l) (nothing_entered (flow_of before) some others ended is)
nothing_recorded ended (halted inner going all legal) = absurd (let clash = sym going ∙ ended in cc)
nothing_recorded ended (whole hand last inner is all going legal) = absurd (let clash = sym going ∙ ended in cc)

pub ended_gives : {gives : Want → Order → Outcome → Type 0} {hired : ℕ → Want → Type 0} {request : Request} {asked : Type 0} {contents : Contents} {plan : PlanValue} {before entries : List Entry} {stop : Option FlowState}
    {shown now : Option (List ℕ)} {closing : List ℕ} {status : ℕ} → has_ended (flow_of before) ≡ true
    → Ran (gives request.want) request asked contents plan before entries stop shown now closing status → GivesAll gives hired (MayRun (gives request.want) request plan) plan before entries
ended_gives {gives} {hired} {request} {plan = plan} {before} {entries} ended r =
    let none : entries ≡ [] = nothing_recorded ended r.steps.session in
    record {
      recorded = subst (λ (l : List Entry). AreRecorded gives hired (outline_of plan) before l) (sym none) tt;
      next = λ e may.
          (let going : has_ended (flow_of before) ≡ false = subst (λ (l : List Entry). has_ended (flow_of (l ++ before)) ≡ false) none may.unended in
          absurd (let clash = sym going ∙ ended in cc));
    }

-- a flow that is put back
pub reset_gives : {gives : Want → Order → Outcome → Type 0} {hired : ℕ → Want → Type 0} {contents : Contents} {plan : PlanValue} {before entries : List Entry} {shown now : Option (List ℕ)} {closing : List ℕ} {status : ℕ}
    → PutBack contents plan before entries shown now closing status → GivesAll gives hired (IsNextReset (outline_of plan)) plan before entries
reset_gives {gives} {hired} {plan = plan} {before} {entries} p = record {
  recorded = resets_given gives hired (outline_of plan) before entries p.steps;
  next = λ e next. put_back_given gives hired (outline_of plan) (entries ++ before) e next;
}
