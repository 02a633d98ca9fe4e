-- Where nothing is in flight, and what is left to do there.
use Rattle.std.proofs.Common.{◌≡◌, ◌≢◌, ℕ, List, ◌∷◌, ◌++◌, reverse, true, false, ◌||◌, Some, None, refl, sym, ap, ◌∙◌, inl, inr}
use Rattle.std.specs.Prelude.{is_some}
use Rattle.tf_states.specs.declared.record.Entry.{Entry}
use Rattle.tf_states.specs.declared.record.What.{What}
use Rattle.tf_states.specs.declared.record.What.TheVariants as what
use Rattle.tf_states.specs.declared.state.FlowState.{FlowState}
use Rattle.tf_states.specs.declared.state.FlowState.TheVariants as flow
use Rattle.tf_states.specs.Transitions.{flow_may}
use Rattle.tf_flow.specs.Plan.{PlanValue}
use Rattle.tf_numbers.proofs.TruthLemmas.{clash}
use Rattle.tf_model.specs.Plan.{Outline, outline_of, compile_refusal}
use Rattle.tf_model.specs.History.{Snapshot, hand_after, snapshot, flow_of, hand_of, flow_runs, flow_suspends}
use Rattle.tf_model.specs.Forced.{forced, choice, end_of}
use Rattle.tf_model.specs.Steps.{flow_entry, entering, has_ended, is_inner, Step, LegalPast, is_free, is_still}
use Rattle.tf_model.proofs.StepLemmas.{step_allowed}
use Rattle.tf_facts.proofs.PastLemmas.{never_stuck}
use Rattle.tf_hands.specs.Hands.{FlightFacts, by_hand, is_of_flow, takes_task, IsAlone}
use Rattle.tf_hands.proofs.FitLemmas.{Turning, goes_on, resumes, is_free_of_work, step_fits}
use Rattle.tf_hands.proofs.FactLemmas.{past_facts}
use Rattle.tf_hands.proofs.EntryLemmas.{hand_origin}
use Rattle.tf_hands.proofs.FlightLemmas.{free_at, still_at, still_of, busy_of}

-- ---- outside a run

pub away_still : (plan : Outline) (past : List Entry) → LegalPast plan past → flow_runs (flow_of past) || flow_suspends (flow_of past) ≡ false → is_still plan (snapshot plan past) ≡ true
unfolding snapshot
away_still plan past legal away =
    still_of plan (snapshot plan past) (λ a h below has. clash (flow_runs (flow_of past) || flow_suspends (flow_of past)) (busy_of plan past legal a h has).goes away)

-- ---- after an entry of the flow

-- nobody has anything in flight, where the flow enters another state than SUSPENDING and RESUMING
turned_none : (plan : Outline) (s : Snapshot) (state : FlowState) → FlightFacts plan s → Turning s state → flow_may s.flow state ≡ true → flow_suspends state ≡ false → state ≢ flow.Resuming
    → (a h : ℕ) → s.hand a ≡ Some h → ⊥
turned_none plan s _ facts (goes_on state goes) may suspends other a h has = began state goes may suspends
  where
    away : (x : FlowState) → flow_may x flow.Running ≡ true → flow_runs x || flow_suspends x ≡ true → ⊥
    away flow.Running may goes = absurd (cc)
    away flow.Suspending may goes = absurd (cc)
    away x may goes = absurd (cc)

    began : (state : FlowState) → flow_runs state || flow_suspends state ≡ true → flow_may s.flow state ≡ true → flow_suspends state ≡ false → ⊥
    began flow.Running goes may suspends = away s.flow may (facts.busy a h has).goes
    began state goes may suspends = absurd (cc)
turned_none plan s _ facts resumes may suspends other a h has = absurd (other refl)
turned_none plan s _ facts (is_free_of_work state free) may suspends other a h has = free a h has

turned_by : (plan : Outline) (past : List Entry) (hand : ℕ) (state : FlowState) → LegalPast plan past → Step plan (snapshot plan past) (by_hand hand (what.Flow state))
    → flow_suspends state ≡ false → (a h : ℕ) → hand_after plan hand (what.Flow state) a (hand_of plan past a) ≡ Some h → ⊥
unfolding snapshot
turned_by plan past hand flow.Resuming legal step suspends a h has = absurd (cc)
turned_by plan past hand state legal step suspends a h has =
    turned_none plan (snapshot plan past) state (past_facts plan past legal) (step_fits plan (snapshot plan past) (by_hand hand (what.Flow state)) (past_facts plan past legal) step)
    (step_allowed plan (snapshot plan past) (by_hand hand (what.Flow state)) step.rule) suspends (λ same. cc) a h has

still_by : (plan : Outline) (past : List Entry) (hand : ℕ) (w : What) → LegalPast plan (by_hand hand w ∷ past) → is_of_flow w ≡ true → is_inner w ≡ false
    → is_still plan (snapshot plan (by_hand hand w ∷ past)) ≡ true
unfolding snapshot
still_by plan past hand (what.Flow state) legal turns outer =
    still_of plan (snapshot plan (by_hand hand (what.Flow state) ∷ past)) (λ a h below has. turned_by plan past hand state legal.1 legal.0 outer a h has)
still_by plan past hand (what.Atom a state held) legal turns outer = absurd (cc)
still_by plan past hand (what.Resolve named resolved) legal turns outer = absurd (cc)
still_by plan past hand (what.Restart again) legal turns outer = absurd (cc)

pub turned_still : (plan : Outline) (past : List Entry) (e : Entry) → LegalPast plan (e ∷ past) → is_of_flow e.what ≡ true → is_inner e.what ≡ false → is_still plan (snapshot plan (e ∷ past)) ≡ true
turned_still plan past e legal turns outer = still_by plan past e.hand e.what legal turns outer

-- ---- as a session enters

entering_still : (plan : Outline) (past : List Entry) (f : FlowState) → has_ended f ≡ false → LegalPast plan (reverse (entering f) ++ past) → is_still plan (snapshot plan (reverse (entering f) ++ past)) ≡ true
entering_still plan past flow.Pending going legal = turned_still plan past (flow_entry flow.Running) legal refl refl
entering_still plan past flow.Suspended going legal = turned_still plan past (flow_entry flow.Running) legal refl refl
entering_still plan past flow.Running going legal = turned_still plan (flow_entry flow.Suspended ∷ flow_entry flow.Resuming ∷ past) (flow_entry flow.Running) legal refl refl
entering_still plan past flow.Suspending going legal = turned_still plan (flow_entry flow.Suspended ∷ flow_entry flow.Resuming ∷ past) (flow_entry flow.Running) legal refl refl
entering_still plan past flow.Resuming going legal = turned_still plan (flow_entry flow.Suspended ∷ past) (flow_entry flow.Running) legal refl refl
entering_still plan past flow.Success going legal = absurd (cc)
entering_still plan past flow.Failure going legal = absurd (cc)
entering_still plan past flow.Reverted going legal = absurd (cc)

pub entered_still : (plan : Outline) (past : List Entry) → has_ended (flow_of past) ≡ false → LegalPast plan (reverse (entering (flow_of past)) ++ past)
    → is_still plan (snapshot plan (reverse (entering (flow_of past)) ++ past)) ≡ true
entered_still plan past going legal = entering_still plan past (flow_of past) going legal

-- ---- a hand alone

pub still_alone : (plan : Outline) (past : List Entry) (hand : ℕ) → is_still plan (snapshot plan past) ≡ true → IsAlone plan past hand
unfolding snapshot
still_alone plan past hand still a other below has = absurd (still_at plan (snapshot plan past) a other still below has)

-- an entry by the hand itself leaves it alone
pub own_alone : (plan : Outline) (past : List Entry) (e : Entry) (hand : ℕ) → e.hand ≡ hand → IsAlone plan past hand → IsAlone plan (e ∷ past) hand
own_alone plan past e hand own alone a other below has = elim (hand_origin plan e.hand e.what a (hand_of plan past a) other has) [
  | inl was ↦ alone a other below was
  | inr taken ↦ sym taken.1 ∙ own
]

-- and one that takes no task up, by any hand
pub idle_alone : (plan : Outline) (past : List Entry) (e : Entry) (hand : ℕ) → takes_task plan e.what ≡ None → IsAlone plan past hand → IsAlone plan (e ∷ past) hand
idle_alone plan past e hand takes alone a other below has = elim (hand_origin plan e.hand e.what a (hand_of plan past a) other has) [
  | inl was ↦ alone a other below was
  | inr taken ↦ let no : None ≡ Some a = sym takes ∙ taken.0 in absurd (cc)
]

pub alone_still : (plan : Outline) (past : List Entry) (hand : ℕ) → IsAlone plan past hand → is_free plan (snapshot plan past) hand ≡ true → is_still plan (snapshot plan past) ≡ true
unfolding snapshot
alone_still plan past hand alone free =
    still_of plan (snapshot plan past) (λ a h below has. free_at plan (snapshot plan past) hand a free below (has ∙ ap Some (alone a h below has)))

pub alone_ends : (plan : PlanValue) (past : List Entry) (hand : ℕ) → compile_refusal plan ≡ None → LegalPast (outline_of plan) past → flow_of past ≡ flow.Running
    → forced (outline_of plan) (snapshot (outline_of plan) past) ≡ None → choice (outline_of plan) (snapshot (outline_of plan) past) ≡ None
    → IsAlone (outline_of plan) past hand → is_free (outline_of plan) (snapshot (outline_of plan) past) hand ≡ true → is_some (end_of (outline_of plan) (snapshot (outline_of plan) past)) ≡ true
alone_ends plan past hand compiles legal runs unforced unchosen alone free =
    never_stuck plan past compiles legal runs unforced unchosen (alone_still (outline_of plan) past hand alone free)
