-- What one run records of the flow.
use Rattle.std.proofs.Common.{◌≡◌, ℕ, List, [], ◌∷◌, ◌++◌, true, false, Option, Some, refl, sym, ap, ◌∙◌, ◌⊎◌, inl, inr, reverse, subst}
use Rattle.std.specs.List.{list_all, cons_option}
use Rattle.tf_states.specs.declared.record.Entry.{Entry}
use Rattle.tf_states.specs.declared.record.What.{What}
use Rattle.tf_states.specs.declared.record.What.TheVariants as what
use Rattle.tf_states.specs.declared.state.FlowState.{FlowState}
use Rattle.tf_states.specs.declared.state.FlowState.TheVariants as flow
use Rattle.tf_states.specs.Transitions.{flow_may}
use Rattle.tf_model.specs.Plan.{Outline}
use Rattle.tf_model.specs.History.{flow_after, snapshot, flow_of}
use Rattle.tf_model.specs.Steps.{LegalPast, Session, already_ended, entered, halted, whole, entering, has_ended, is_last, is_inner, is_inner_entry}
use Rattle.tf_model.specs.Laws.{is_allowed, HasAllowed, flow_states, flow_state_in, IsGoing, IsStopped, IsWholeRun}
use Rattle.tf_model.proofs.StepLemmas.{past_allowed}
use Rattle.tf_numbers.proofs.TruthLemmas.{and_first, and_second}

-- a run that entered leaves the flow RUNNING
entered_runs : (f : FlowState) (before : List Entry) → has_ended f ≡ false → flow_of (reverse (entering f) ++ before) ≡ flow.Running
entered_runs flow.Pending before is = refl
entered_runs flow.Suspended before is = refl
entered_runs flow.Running before is = refl
entered_runs flow.Suspending before is = refl
entered_runs flow.Resuming before is = refl
entered_runs flow.Success before is = absurd (cc)
entered_runs flow.Failure before is = absurd (cc)
entered_runs flow.Reverted before is = absurd (cc)

-- where a run stands: nothing was recorded of the flow since, and it is RUNNING; or SUSPENDING was, and it is that
abbrev Stands : List FlowState → FlowState → Type 0
Stands states now = ((states ≡ []) × (now ≡ flow.Running)) ⊎ ((states ≡ flow.Suspending ∷ []) × (now ≡ flow.Suspending))

no_second : (now : FlowState) → now ≡ flow.Suspending → flow_may now flow.Suspending ≡ true → ⊥
no_second now is may = let no : false ≡ true = ap (λ (f : FlowState). flow_may f flow.Suspending) (sym is) ∙ may in cc

goes_on : (plan : Outline) (e : What) (states : List FlowState) (past : List Entry) → is_inner e ≡ true → is_allowed plan (snapshot plan past) e ≡ true → Stands states (flow_of past)
    → Stands (cons_option (flow_state_in e) states) (flow_after e (flow_of past))
unfolding snapshot
goes_on plan (what.Atom a state held) states past inner may is = is
goes_on plan (what.Resolve named resolved) states past inner may is = is
goes_on plan (what.Restart again) states past inner may is = is
goes_on plan (what.Flow flow.Suspending) states past inner may is = elim is [
  | inl runs ↦ inr (ap (λ (fs : List FlowState). flow.Suspending ∷ fs) runs.0, refl)
  | inr suspends ↦ absurd (no_second (flow_of past) suspends.1 may)
]
goes_on plan (what.Flow state) states past inner may is = absurd (cc)

-- what is recorded after a run entered leaves it there
inner_stands : (plan : Outline) (inner past : List Entry) → flow_of past ≡ flow.Running → list_all is_inner_entry inner ≡ true → HasAllowed plan (inner ++ past) → Stands (flow_states inner) (flow_of (inner ++ past))
inner_stands plan [] past runs all may = inl (refl, runs)
inner_stands plan (e ∷ inner) past runs all may =
    goes_on plan e.what (flow_states inner) (inner ++ past) (and_first (is_inner e.what) _ all) may.0 (inner_stands plan inner past runs (and_second (is_inner e.what) _ all) may.1)

going : (states : List FlowState) (now : FlowState) → Stands states now → IsGoing states
going states now is = elim is [ inl runs ↦ inl runs.0 | inr suspends ↦ inr suspends.0 ]

ended_or_suspended : (last : FlowState) → is_last last ≡ true → (has_ended last ≡ true) ⊎ (last ≡ flow.Suspended)
ended_or_suspended flow.Success is = inl refl
ended_or_suspended flow.Failure is = inl refl
ended_or_suspended flow.Reverted is = inl refl
ended_or_suspended flow.Suspended is = inr refl
ended_or_suspended last is = absurd (cc)

not_at_once : (now last : FlowState) → now ≡ flow.Running → last ≡ flow.Suspended → flow_may now last ≡ true → ⊥
not_at_once now last runs is may =
    let no : false ≡ true = ap (λ (f : FlowState). flow_may f flow.Suspended) (sym runs) ∙ (ap (λ (f : FlowState). flow_may now f) (sym is) ∙ may) in cc

stopped : (states : List FlowState) (now last : FlowState) → is_last last ≡ true → flow_may now last ≡ true → Stands states now → IsStopped last (last ∷ states)
stopped states now last is may stands = elim stands [
  | inl runs ↦ elim (ended_or_suspended last is) [
    | inl ended ↦ inl (ap (λ (fs : List FlowState). last ∷ fs) runs.0, ended)
    | inr suspended ↦ absurd (not_at_once now last runs.1 suspended may)
  ]
  | inr suspends ↦ inr (ap (λ (fs : List FlowState). last ∷ fs) suspends.0)
]

-- what one run recorded of the flow before it stopped: after the entering entries nothing, SUSPENDING, or
-- what it stopped with
pub session_states : (plan : Outline) (before inner : List Entry) → has_ended (flow_of before) ≡ false → list_all is_inner_entry inner ≡ true
    → LegalPast plan (inner ++ (reverse (entering (flow_of before)) ++ before)) → IsGoing (flow_states inner)
session_states plan before inner open_yet all legal =
    going (flow_states inner) (flow_of (inner ++ (reverse (entering (flow_of before)) ++ before)))
    (inner_stands plan inner (reverse (entering (flow_of before)) ++ before) (entered_runs (flow_of before) before open_yet) all (past_allowed plan (inner ++ (reverse (entering (flow_of before)) ++ before)) legal))

pub session_end : (plan : Outline) (before inner : List Entry) (hand : ℕ) (last : FlowState) → has_ended (flow_of before) ≡ false → is_last last ≡ true → list_all is_inner_entry inner ≡ true
    → LegalPast plan (record { hand = hand; what = what.Flow last } ∷ (inner ++ (reverse (entering (flow_of before)) ++ before))) → IsStopped last (last ∷ flow_states inner)
unfolding snapshot
session_end plan before inner hand last open_yet is all legal =
    let may = past_allowed plan (record { hand = hand; what = what.Flow last } ∷ (inner ++ (reverse (entering (flow_of before)) ++ before))) legal in
    stopped (flow_states inner) (flow_of (inner ++ (reverse (entering (flow_of before)) ++ before))) last is may.0
    (inner_stands plan inner (reverse (entering (flow_of before)) ++ before) (entered_runs (flow_of before) before open_yet) all may.1)

whole_by : (plan : Outline) (before entries : List Entry) (o : Option FlowState) (last : FlowState) → Session plan before entries o → o ≡ Some last → IsWholeRun before entries last
whole_by plan before entries o last (already_ended is legal) same = inl (is, refl)
whole_by plan before entries o last (entered some others is legal) same = absurd (cc)
whole_by plan before entries o last (halted inner open_yet all legal) same = absurd (cc)
whole_by plan before entries o last (whole hand f inner is all open_yet legal) same =
    let this : f ≡ last = cc in
    inr (record {
      newer = record { hand = hand; what = what.Flow f } ∷ inner;
      recorded = refl;
      stopped = subst (λ (l : FlowState). IsStopped l (f ∷ flow_states inner)) this (session_end plan before inner hand f open_yet is all legal);
    })

-- a run that stopped recorded of the flow what it should
pub whole_states : (plan : Outline) (before entries : List Entry) (last : FlowState) → Session plan before entries (Some last) → IsWholeRun before entries last
whole_states plan before entries last session = whole_by plan before entries (Some last) last session refl
