-- What each rule of a step asks for, of the tables' facts.
use Rattle.std.proofs.Common.{◌≡◌, ℕ, ◌<◌, true, false, ◌&&◌, ◌||◌, Option, Some, None, refl, sym, ap, subst, inl, inr, slice_get}
use Rattle.std.specs.Prelude.{is_none, option_map}
use Rattle.tf_states.specs.declared.record.Entry.{Entry}
use Rattle.tf_states.specs.declared.record.Payload.{Payload}
use Rattle.tf_states.specs.declared.record.Payload.TheVariants as payload
use Rattle.tf_states.specs.declared.record.What.{What}
use Rattle.tf_states.specs.declared.record.What.TheVariants as what
use Rattle.tf_states.specs.declared.state.AtomState.{AtomState}
use Rattle.tf_states.specs.declared.state.AtomState.TheVariants as atom
use Rattle.tf_states.specs.declared.state.FlowState.{FlowState}
use Rattle.tf_states.specs.declared.state.FlowState.TheVariants as flow
use Rattle.tf_flow.specs.declared.deciders.Depth.{Depth}
use Rattle.tf_flow.specs.Outline.{Atom, Part, a_task, a_retry, is_task_part, is_retry_part}
use Rattle.tf_numbers.specs.Numbers.{all_below, first_below, is_number}
use Rattle.tf_model.specs.Plan.{Outline, count, is_task, is_retry}
use Rattle.tf_model.specs.History.{Snapshot, is_at_work, is_pending, is_running, is_retrying, flow_runs, flow_suspends, flow_is_reverted}
use Rattle.tf_model.specs.Readiness.{refused}
use Rattle.tf_model.specs.Retries.{attempt, ends_with}
use Rattle.tf_model.specs.Forced.{forced, forced_if_running, is_active, is_unhurt, is_to_put_back, put_back_or_run, is_to_ignore, ignore_or_self, ignore_by, is_interrupted, is_candidate, is_best, taken_up, candidate_entry, candidate_if_running, choice, end_of}
use Rattle.tf_model.proofs.Told.{is_task_in, is_retry_in}
use Rattle.tf_model.specs.Steps.{Step, Rule, by_force, by_choice, by_end_of_task, by_turn, by_end, by_suspension, by_reset, is_hand, is_still, is_idle, ends_task, ends_as, turns_flow, may_turn, may_suspend, reset, put_back_or_rest, is_put_back_at, is_settled_at}
use Rattle.tf_numbers.proofs.BelowLemmas.{all_at, found_passes, found_below}
use Rattle.tf_numbers.proofs.OptionLemmas.{is_this_number, if_some, only_if}
use Rattle.tf_numbers.proofs.TruthLemmas.{and_first, and_second, or_either, true_first, true_second, clash}
use Rattle.tf_model.proofs.StepLemmas.{run_pending}
use Rattle.tf_facts.proofs.CaseLemmas.{forced_by}
use Rattle.tf_hands.specs.Hands.{Busy, FlightFacts}
use Rattle.tf_model.proofs.PlanLemmas.{task_below}

-- a task may begin to work by the hand: it is numbered as one, and the flow is RUNNING or SUSPENDING
abbrev pub MayWork : Snapshot → ℕ → Type 0
MayWork s hand = (is_hand hand ≡ true) × (flow_runs s.flow || flow_suspends s.flow ≡ true)

-- what an entry of an atom asks for, by the state that it enters
abbrev pub StateFits : Outline → Snapshot → ℕ → ℕ → AtomState → Type 0
StateFits plan s hand a atom.Running = (is_task plan a ≡ true → MayWork s hand) × (is_pending (s.state a) || is_retrying (s.state a) ≡ true)
StateFits plan s hand a atom.Reverting = is_task plan a ≡ true → MayWork s hand
StateFits plan s hand a atom.Success = is_running (s.state a) ≡ true
StateFits plan s hand a state = Unit {0}

-- the flow enters a state: one in which tasks go on, or RESUMING, or nothing is in flight
pub data Turning (s : Snapshot) : FlowState → Type 0 where
  goes_on : (state : FlowState) → flow_runs state || flow_suspends state ≡ true → Turning s state
  resumes : Turning s flow.Resuming
  is_free_of_work : (state : FlowState) → ((b h : ℕ) → s.hand b ≡ Some h → ⊥) → Turning s state

-- what an entry asks for
abbrev pub Fits : Outline → Snapshot → ℕ → What → Type 0
Fits plan s hand (what.Atom a state held) = (a < count plan) × StateFits plan s hand a state
Fits plan s hand (what.Flow state) = Turning s state
Fits plan s hand (what.Resolve named resolved) = Unit {0}
Fits plan s hand (what.Restart again) = (again < count plan) × Busy plan s again hand

-- ---- atoms

-- a retry controller is no task
not_both : (plan : Outline) (a : ℕ) → is_retry plan a ≡ true → is_task plan a ≡ true → ⊥
not_both plan a retry task = by (slice_get plan.atoms a) retry task
  where
    part : (p : Part) → is_retry_part p ≡ true → is_task_part p ≡ true → ⊥
    part (a_task t) retries tasks = cc
    part (a_retry r) retries tasks = cc

    by : (o : Option Atom) → is_retry_in o ≡ true → is_task_in o ≡ true → ⊥
    by None retries tasks = cc
    by (Some x) retries tasks = part x.part retries tasks

-- ---- what is forced

attempt_fits : (plan : Outline) (s : Snapshot) (hand r : ℕ) (p : Payload) → r < count plan → is_running (s.state r) ≡ true → Fits plan s hand (ends_with r p)
attempt_fits plan s hand r (payload.Value v) below is = (below, is)
attempt_fits plan s hand r (payload.Fault fault) below is = (below, tt)
attempt_fits plan s hand r payload.Empty below is = (below, is)

again_fits : (plan : Outline) (s : Snapshot) (hand r : ℕ) (o : Option ℕ) → r < count plan → is_retry plan r ≡ true → is_retrying (s.state r) ≡ true → ((a : ℕ) → o ≡ Some a → a < count plan) → Fits plan s hand (put_back_or_run r o)
again_fits plan s hand r None below retry is each = (below, (λ task. absurd (not_both plan r retry task), true_second (is_pending (s.state r)) (is_retrying (s.state r)) is))
again_fits plan s hand r (Some a) below retry is each = (each a refl, tt)

ignore_fits : (plan : Outline) (s : Snapshot) (hand v : ℕ) (how : Option Depth) → v < count plan → Fits plan s hand (ignore_by plan s v how)
ignore_fits plan s hand v None below = (below, tt)
ignore_fits plan s hand v (Some how) below = by (first_below (count plan) (is_to_ignore plan s v how)) refl
  where
    by : (o : Option ℕ) → first_below (count plan) (is_to_ignore plan s v how) ≡ o → Fits plan s hand (ignore_or_self v o)
    by None found = (below, tt)
    by (Some a) found = (found_below (count plan) (is_to_ignore plan s v how) a found, tt)

forced_fits : (plan : Outline) (s : Snapshot) (hand : ℕ) (w : What) → forced_if_running plan s ≡ Some w → Fits plan s hand w
forced_fits plan s hand = forced_by plan s (Fits plan s hand) (record {
  attempt = λ r below test. attempt_fits plan s hand r (attempt plan s r) below (and_second (is_retry plan r) _ test);
  again = λ r below test. again_fits plan s hand r (first_below (count plan) (is_to_put_back plan s r)) below (and_first (is_retry plan r) _ test) (and_second (is_retry plan r) _ test)
      (λ a found. found_below (count plan) (is_to_put_back plan s r) a found);
  reverted = λ r below test. (below, tt);
  resolution = λ none a below test. tt;
  retrying = λ r below test. (below, tt);
  revert = λ r below test. (below, λ task. absurd (not_both plan r (and_first (is_retry plan r) _ test) task));
  ignore = λ none v below test. ignore_fits plan s hand v (refused plan s v) below;
  run = λ none r below test. (below, (λ task. absurd (not_both plan r (and_first (is_retry plan r) _ test) task), true_first (is_pending (s.state r)) _ (run_pending plan s r (and_second (is_retry plan r) _ test))));
})

-- ---- what is taken up

-- a candidate is a task
pub candidate_task : (plan : Outline) (s : Snapshot) (a : ℕ) → is_candidate plan s a ≡ true → is_task plan a ≡ true
candidate_task plan s a is = elim (or_either (is_interrupted plan s a) _ is) [
  | inl stopped ↦ and_first (is_task plan a) _ stopped
  | inr ready ↦ and_first (is_task plan a) _ ready
]

taken_fits : (plan : Outline) (s : Snapshot) (hand a : ℕ) (state : AtomState) → s.state a ≡ state → a < count plan → is_task plan a ≡ true → MayWork s hand → Fits plan s hand (taken_up state a)
taken_fits plan s hand a atom.Pending was below task may = (below, (λ is. may, true_first (is_pending (s.state a)) _ (ap is_pending was)))
taken_fits plan s hand a atom.Running was below task may = (below, record { numbered = may.0; task = task; at_work = ap is_at_work was; goes = may.1 })
taken_fits plan s hand a atom.Reverting was below task may = (below, record { numbered = may.0; task = task; at_work = ap is_at_work was; goes = may.1 })
taken_fits plan s hand a atom.Success was below task may = (below, λ is. may)
taken_fits plan s hand a atom.Failure was below task may = (below, λ is. may)
taken_fits plan s hand a atom.Reverted was below task may = (below, λ is. may)
taken_fits plan s hand a atom.RevertFailure was below task may = (below, λ is. may)
taken_fits plan s hand a atom.Ignore was below task may = (below, λ is. may)
taken_fits plan s hand a atom.Retrying was below task may = (below, λ is. may)

chosen_fits : (plan : Outline) (s : Snapshot) (hand : ℕ) (w : What) → is_hand hand ≡ true → choice plan s ≡ Some w → Fits plan s hand w
unfolding choice candidate_if_running is_active
chosen_fits plan s hand w numbered is =
    let parts = only_if (is_active plan s && is_none (forced plan s)) (candidate_if_running plan s) w is in
    of (and_first (flow_runs s.flow) (is_unhurt plan s) (and_first (is_active plan s) _ parts.0)) (first_below (count plan) (is_best plan s)) refl parts.1
  where
    of : flow_runs s.flow ≡ true → (o : Option ℕ) → first_below (count plan) (is_best plan s) ≡ o → option_map (candidate_entry s) o ≡ Some w → Fits plan s hand w
    of goes None found gives = absurd (cc)
    of goes (Some a) found gives =
        let same : candidate_entry s a ≡ w = cc in
        let candidate = and_first (is_candidate plan s a) _ (found_passes (count plan) (is_best plan s) a found) in
        subst (Fits plan s hand) same (taken_fits plan s hand a (s.state a) refl (found_below (count plan) (is_best plan s) a found) (candidate_task plan s a candidate) (numbered, true_first (flow_runs s.flow) (flow_suspends s.flow) goes))

-- ---- how tasks end

ended_fits : (plan : Outline) (s : Snapshot) (hand a : ℕ) (from state : AtomState) (held : Payload) → s.state a ≡ from → ends_as from state held ≡ true → StateFits plan s hand a state
ended_fits plan s hand a atom.Running atom.Success (payload.Value v) was is = ap is_running was
ended_fits plan s hand a atom.Running atom.Failure (payload.Fault f) was is = tt
ended_fits plan s hand a atom.Reverting atom.Reverted payload.Empty was is = tt
ended_fits plan s hand a atom.Reverting atom.RevertFailure (payload.Fault f) was is = tt
ended_fits plan s hand a from state held was is = absurd (cc)

ends_fit : (plan : Outline) (s : Snapshot) (hand : ℕ) (w : What) → FlightFacts plan s → ends_task s hand w ≡ true → Fits plan s hand w
unfolding ends_task
ends_fit plan s hand (what.Atom a state held) facts is =
    let parts = and_second (flow_runs s.flow || flow_suspends s.flow) _ is in
    let has = is_this_number (s.hand a) hand (and_first (is_number (s.hand a) hand) _ parts) in
    (task_below plan a (facts.busy a hand has).task, ended_fits plan s hand a (s.state a) state held refl (and_second (is_number (s.hand a) hand) _ parts))
ends_fit plan s hand (what.Flow state) facts is = absurd (cc)
ends_fit plan s hand (what.Resolve named resolved) facts is = absurd (cc)
ends_fit plan s hand (what.Restart again) facts is = absurd (cc)

-- ---- turns of the flow

still_free : (plan : Outline) (s : Snapshot) → FlightFacts plan s → is_still plan s ≡ true → (b h : ℕ) → s.hand b ≡ Some h → ⊥
unfolding is_still
still_free plan s facts still b h is =
    clash (is_idle s b) (all_at (count plan) (is_idle s) b still (task_below plan b (facts.busy b h is).task)) (ap is_none is)

-- nothing is in flight while the flow is in another state
away : (plan : Outline) (s : Snapshot) → FlightFacts plan s → flow_runs s.flow || flow_suspends s.flow ≡ false → (b h : ℕ) → s.hand b ≡ Some h → ⊥
away plan s facts goes b h is = clash (flow_runs s.flow || flow_suspends s.flow) (facts.busy b h is).goes goes

-- a turn goes on, resumes, or leaves RESUMING, in which nothing is in flight
turn_by : (s : Snapshot) (from to : FlowState) → s.flow ≡ from → may_turn from to ≡ true → (flow_runs from || flow_suspends from ≡ false → (b h : ℕ) → s.hand b ≡ Some h → ⊥) → Turning s to
turn_by s flow.Pending flow.Running was may free = goes_on flow.Running refl
turn_by s flow.Suspended flow.Running was may free = goes_on flow.Running refl
turn_by s flow.Running flow.Suspending was may free = goes_on flow.Suspending refl
turn_by s flow.Running flow.Resuming was may free = resumes
turn_by s flow.Suspending flow.Resuming was may free = resumes
turn_by s flow.Resuming flow.Suspended was may free = is_free_of_work flow.Suspended (free refl)
turn_by s from to was may free = absurd (cc)

turns_fit : (plan : Outline) (s : Snapshot) (hand : ℕ) (w : What) → FlightFacts plan s → turns_flow s.flow w ≡ true → Fits plan s hand w
turns_fit plan s hand (what.Flow state) facts is = turn_by s s.flow state refl is (λ elsewhere. away plan s facts elsewhere)
turns_fit plan s hand (what.Atom a state held) facts is = absurd (cc)
turns_fit plan s hand (what.Resolve named resolved) facts is = absurd (cc)
turns_fit plan s hand (what.Restart again) facts is = absurd (cc)

closes_fit : (plan : Outline) (s : Snapshot) (hand : ℕ) (w : What) (o : Option FlowState) → FlightFacts plan s → is_still plan s ≡ true → option_map what.Flow o ≡ Some w → Fits plan s hand w
closes_fit plan s hand w None facts still is = absurd (cc)
closes_fit plan s hand w (Some state) facts still is =
    let same : what.Flow state ≡ w = cc in subst (Fits plan s hand) same (is_free_of_work state (still_free plan s facts still))

suspends_fit : (plan : Outline) (s : Snapshot) (hand : ℕ) (w : What) → FlightFacts plan s → may_suspend plan s ≡ true → w ≡ what.Flow flow.Suspended → Fits plan s hand w
unfolding may_suspend
suspends_fit plan s hand w facts is event =
    subst (Fits plan s hand) (sym event) (is_free_of_work flow.Suspended (still_free plan s facts (and_first (is_still plan s) _ (and_second (flow_suspends s.flow) _ is))))

reverted_away : (state : FlowState) → flow_is_reverted state ≡ true → flow_runs state || flow_suspends state ≡ false
reverted_away flow.Reverted is = refl
reverted_away state is = absurd (cc)

reset_fits : (plan : Outline) (s : Snapshot) (hand : ℕ) (w : What) → FlightFacts plan s → reset plan s ≡ Some w → Fits plan s hand w
unfolding reset
reset_fits plan s hand w facts is =
    let parts = if_some (flow_is_reverted s.flow && all_below (count plan) (is_settled_at s)) (put_back_or_rest (first_below (count plan) (is_put_back_at s))) w is in
    subst (Fits plan s hand) parts.1 (by (and_first (flow_is_reverted s.flow) _ parts.0) (first_below (count plan) (is_put_back_at s)) refl)
  where
    by : flow_is_reverted s.flow ≡ true → (o : Option ℕ) → first_below (count plan) (is_put_back_at s) ≡ o → Fits plan s hand (put_back_or_rest o)
    by reverted None found = is_free_of_work flow.Pending (away plan s facts (reverted_away s.flow reverted))
    by reverted (Some a) found = (found_below (count plan) (is_put_back_at s) a found, tt)

-- ---- each rule

rule_fits : (plan : Outline) (s : Snapshot) (e : Entry) → FlightFacts plan s → is_hand e.hand ≡ true → Rule plan s e → Fits plan s e.hand e.what
unfolding forced
rule_fits plan s e facts numbered (by_force is) = forced_fits plan s e.hand e.what (only_if (is_active plan s) (forced_if_running plan s) e.what is).1
rule_fits plan s e facts numbered (by_choice is free) = chosen_fits plan s e.hand e.what numbered is
rule_fits plan s e facts numbered (by_end_of_task is) = ends_fit plan s e.hand e.what facts is
rule_fits plan s e facts numbered (by_turn is) = turns_fit plan s e.hand e.what facts is
rule_fits plan s e facts numbered (by_end is still) = closes_fit plan s e.hand e.what (end_of plan s) facts still is
rule_fits plan s e facts numbered (by_suspension is event) = suspends_fit plan s e.hand e.what facts is event
rule_fits plan s e facts numbered (by_reset is) = reset_fits plan s e.hand e.what facts is

-- a step fits
pub step_fits : (plan : Outline) (s : Snapshot) (e : Entry) → FlightFacts plan s → Step plan s e → Fits plan s e.hand e.what
step_fits plan s e facts step = rule_fits plan s e facts step.hand step.rule

-- the atom that an entry enters, and that which it restarts, is one of the plan's
pub entered_below : (plan : Outline) (s : Snapshot) (e : Entry) (a : ℕ) (state : AtomState) (held : Payload) → FlightFacts plan s → Step plan s e → e.what ≡ what.Atom a state held → a < count plan
entered_below plan s e a state held facts step is = (subst (Fits plan s e.hand) is (step_fits plan s e facts step)).0

pub restarted_below : (plan : Outline) (s : Snapshot) (e : Entry) (a : ℕ) → FlightFacts plan s → Step plan s e → e.what ≡ what.Restart a → a < count plan
restarted_below plan s e a facts step is = (subst (Fits plan s e.hand) is (step_fits plan s e facts step)).0
