-- Each entry of a flow at work makes less owed, by the rules.
use Rattle.std.proofs.Common.{◌≡◌, ◌≢◌, ℕ, ◌<◌, Bool, true, false, not, ◌&&◌, ◌||◌, Option, Some, None, refl, sym, ap, ◌∙◌, inl, inr, subst, arith}
use Rattle.std.specs.Option.{option_map}
use Rattle.std.specs.Prelude.{if◌then◌else◌, is_none, nat_eq}
use Rattle.tf_states.specs.declared.record.Entry.{Entry}
use Rattle.tf_states.specs.declared.record.Payload.{Payload}
use Rattle.tf_states.specs.declared.record.Payload.TheVariants as payload
use Rattle.tf_states.specs.declared.record.What.{What}
use Rattle.tf_states.specs.declared.record.What.TheVariants as what
use Rattle.tf_states.specs.declared.state.AtomState.{AtomState}
use Rattle.tf_states.specs.declared.state.AtomState.TheVariants as atom
use Rattle.tf_states.specs.declared.state.FlowState.{FlowState}
use Rattle.tf_states.specs.declared.state.FlowState.TheVariants as flow
use Rattle.tf_flow.specs.declared.deciders.Depth.{Depth}
use Rattle.tf_numbers.specs.Numbers.{first_below, is_number}
use Rattle.tf_model.specs.Plan.{Outline, count, holds, is_retry, is_task}
use Rattle.tf_model.specs.History.{Resolve, Snapshot, later, is_at_work, is_pending, is_success, is_failure, is_executed, flow_runs, flow_suspends, flow_is_reverted}
use Rattle.tf_model.specs.Readiness.{can_run, can_revert, refused}
use Rattle.tf_model.specs.Retries.{attempt, resolution}
use Rattle.tf_model.specs.Forced.{is_to_put_back, is_beginning_again, is_to_ignore, ignore_by, ignore_or_self, forced, forced_if_running, is_active, candidate_if_running, choice, candidate_entry, taken_up, is_best, is_candidate, is_interrupted, end_of}
use Rattle.tf_model.specs.Steps.{Rule, by_force, by_choice, by_end_of_task, by_turn, by_end, by_suspension, by_reset, ends_task, ends_as, turns_flow, may_turn, end_entry, may_suspend, reset, put_back_or_rest, is_put_back_at, has_ended}
use Rattle.tf_model.proofs.StepLemmas.{revert_executed, run_pending, end_is}
use Rattle.tf_numbers.proofs.TruthLemmas.{and_first, and_second, or_either, clash}
use Rattle.tf_numbers.proofs.BelowLemmas.{found_passes, found_below}
use Rattle.tf_facts.proofs.MoveLemmas.{pending_is}
use Rattle.tf_numbers.proofs.OptionLemmas.{is_this_number, only_if, if_some}
use Rattle.tf_facts.proofs.StepLemmas.{ready_part}
use Rattle.tf_bound.specs.Owed.{held, turn, left_with}
use Rattle.tf_bound.specs.Kept.{IsGuarded, IsCounted, IsMarkedWithin, IsKept}
use Rattle.tf_bound.proofs.RoomLemmas.{IsWeighed}
use Rattle.tf_bound.proofs.OwedLemmas.{free}
use Rattle.tf_facts.proofs.CaseLemmas.{NoneIs, forced_by, none_begins}
use Rattle.tf_facts.proofs.ForcedLemmas.{running_is, reverting_is, success_is}
use Rattle.tf_bound.proofs.FallLemmas.{Falls, unsettled_falls, attempt_falls, reverting_falls, ignored_falls, running_falls, again_falls, resolve_falls, restart_falls, turn_falls}

-- ---- the rules

ignore_falls : (plan : Outline) (attempt : ℕ → ℕ) (s : Snapshot) (v : ℕ) → NoneIs plan (is_beginning_again plan s) → v < count plan → is_pending (s.state v) ≡ true → (how : Option Depth)
    → Falls plan attempt s (ignore_by plan s v how)
ignore_falls plan attempt s v none below pending None = ignored_falls plan attempt s v none below pending
ignore_falls plan attempt s v none below pending (Some how) = by (first_below (count plan) (is_to_ignore plan s v how)) refl
  where
    by : (o : Option ℕ) → first_below (count plan) (is_to_ignore plan s v how) ≡ o → Falls plan attempt s (ignore_or_self v o)
    by None found = ignored_falls plan attempt s v none below pending
    by (Some b) found =
        ignored_falls plan attempt s b none (found_below (count plan) (is_to_ignore plan s v how) b found)
        (and_first (is_pending (s.state b)) _ (and_second (not (nat_eq v b)) _ (found_passes (count plan) (is_to_ignore plan s v how) b found)))

-- the flow that a failure is resolved to holds the atom that failed
abbrev pub ResolvesHolding : Outline → Type 0
ResolvesHolding plan = (s : Snapshot) (a : ℕ) → a < count plan → holds plan (resolution plan s a).flow a ≡ true

pub forced_falls : (plan : Outline) (attempt : ℕ → ℕ) (s : Snapshot) → IsWeighed plan attempt → ResolvesHolding plan → IsGuarded plan s → IsCounted plan s → IsMarkedWithin plan s → (w : What) → forced_if_running plan s ≡ Some w → Falls plan attempt s w
forced_falls plan cost s weighed resolves guarded counted within = forced_by plan s (Falls plan cost s) (record {
  attempt = λ r below test. attempt_falls plan cost s r (attempt plan s r) guarded below (running_is (s.state r) (and_second (is_retry plan r) _ test));
  again = λ r below test. again_falls plan cost s r weighed guarded counted within below (and_first (is_retry plan r) _ test) (and_second (is_retry plan r) _ test) (first_below (count plan) (is_to_put_back plan s r)) refl;
  reverted = λ r below test. unsettled_falls plan cost s r atom.Reverting atom.Reverted payload.Empty guarded below (reverting_is (s.state r) (and_second (is_retry plan r) _ test)) refl refl refl;
  resolution = λ none a below test. resolve_falls plan cost s a (resolution plan s a) guarded below (and_first (is_failure (s.state a)) _ test) (and_second (is_failure (s.state a)) _ test) (resolves s a below);
  retrying = λ r below test. unsettled_falls plan cost s r atom.Success atom.Retrying payload.Empty guarded below
      (success_is (s.state r) (and_second (is_retry plan r) _ (and_first (is_retry plan r && is_success (s.state r)) _ test))) refl refl refl;
  revert = λ r below test. reverting_falls plan cost s r guarded below (and_second (is_retry plan r) _ test);
  ignore = λ none v below test. ignore_falls plan cost s v none below (run_pending plan s v (and_first (can_run plan s v) _ test)) (refused plan s v);
  run = λ none r below test. running_falls plan cost s r guarded within none below (pending_is (s.state r) (run_pending plan s r (and_second (is_retry plan r) _ test)));
})

-- what is forced makes less owed
pub active_falls : (plan : Outline) (cost : ℕ → ℕ) (s : Snapshot) → IsWeighed plan cost → ResolvesHolding plan → IsKept plan s → (w : What) → forced plan s ≡ Some w → Falls plan cost s w
unfolding forced
active_falls plan cost s weighed resolves kept w is = forced_falls plan cost s weighed resolves kept.guarded kept.counted kept.within w (only_if (is_active plan s) (forced_if_running plan s) w is).1

-- a task that isn't at work is taken up since it can run or can revert
revert_only : (plan : Outline) (cost : ℕ → ℕ) (s : Snapshot) (a : ℕ) (x : AtomState) → IsGuarded plan s → a < count plan → s.state a ≡ x → is_candidate plan s a ≡ true → is_at_work x ≡ false → is_pending x ≡ false
    → Falls plan cost s (what.Atom a atom.Reverting payload.Empty)
revert_only plan cost s a x guarded below was is idle isnt = elim (ready_part plan s a is (ap is_at_work was ∙ idle)) [
  | inl runs_now ↦ absurd (clash (is_pending (s.state a)) (run_pending plan s a runs_now) (ap is_pending was ∙ isnt))
  | inr reverts_now ↦ reverting_falls plan cost s a guarded below reverts_now
]

-- a task at work is taken up since it was interrupted
stopped_only : (plan : Outline) (s : Snapshot) (a : ℕ) → is_candidate plan s a ≡ true → is_at_work (s.state a) ≡ true → is_interrupted plan s a ≡ true
stopped_only plan s a is works = elim (or_either (is_interrupted plan s a) _ is) [
  | inl stopped ↦ stopped
  | inr ready ↦ elim (or_either (can_run plan s a) (can_revert plan s a) (and_second (is_task plan a) _ ready)) [
    | inl runs_now ↦ absurd (never_pending (s.state a) works (run_pending plan s a runs_now))
    | inr reverts_now ↦ absurd (never_executed (s.state a) works (revert_executed plan s a reverts_now))
  ]
]
  where
    never_pending : (x : AtomState) → is_at_work x ≡ true → is_pending x ≡ true → ⊥
    never_pending atom.Running works is = cc
    never_pending atom.Reverting works is = cc
    never_pending x works is = cc

    never_executed : (x : AtomState) → is_at_work x ≡ true → is_executed x ≡ true → ⊥
    never_executed atom.Running works is = cc
    never_executed atom.Reverting works is = cc
    never_executed x works is = cc

taken_falls : (plan : Outline) (cost : ℕ → ℕ) (s : Snapshot) (a : ℕ) (x : AtomState) → IsGuarded plan s → IsMarkedWithin plan s → NoneIs plan (is_beginning_again plan s) → a < count plan → s.state a ≡ x → is_candidate plan s a ≡ true
    → Falls plan cost s (taken_up x a)
taken_falls plan cost s a atom.Running guarded within none below was is = restart_falls plan cost s a guarded below (stopped_only plan s a is (ap is_at_work was))
taken_falls plan cost s a atom.Reverting guarded within none below was is = restart_falls plan cost s a guarded below (stopped_only plan s a is (ap is_at_work was))
taken_falls plan cost s a atom.Pending guarded within none below was is = running_falls plan cost s a guarded within none below was
taken_falls plan cost s a atom.Success guarded within none below was is = revert_only plan cost s a atom.Success guarded below was is refl refl
taken_falls plan cost s a atom.Failure guarded within none below was is = revert_only plan cost s a atom.Failure guarded below was is refl refl
taken_falls plan cost s a atom.Reverted guarded within none below was is = revert_only plan cost s a atom.Reverted guarded below was is refl refl
taken_falls plan cost s a atom.RevertFailure guarded within none below was is = revert_only plan cost s a atom.RevertFailure guarded below was is refl refl
taken_falls plan cost s a atom.Ignore guarded within none below was is = revert_only plan cost s a atom.Ignore guarded below was is refl refl
taken_falls plan cost s a atom.Retrying guarded within none below was is = revert_only plan cost s a atom.Retrying guarded below was is refl refl

none_is : (o : Option What) → is_none o ≡ true → o ≡ None
none_is None is = refl
none_is (Some w) is = absurd (cc)

-- where nothing is forced in an active flow, nothing is forced as if it were RUNNING
unforced : (active : Bool) (o : Option What) → active ≡ true → (if active then o else None) ≡ None → o ≡ None
unforced true o is none = none
unforced false o is none = absurd (cc)

pub chosen_falls : (plan : Outline) (cost : ℕ → ℕ) (s : Snapshot) → IsGuarded plan s → IsMarkedWithin plan s → (w : What) → choice plan s ≡ Some w → Falls plan cost s w
unfolding choice forced candidate_if_running
chosen_falls plan cost s guarded within w is =
    let parts = only_if (is_active plan s && is_none (forced plan s)) (candidate_if_running plan s) w is in
    let none : NoneIs plan (is_beginning_again plan s) = none_begins plan s (unforced (is_active plan s) (forced_if_running plan s) (and_first (is_active plan s) _ parts.0)
    (none_is (forced plan s) (and_second (is_active plan s) _ parts.0))) in
    of none (first_below (count plan) (is_best plan s)) refl parts.1
  where
    of : NoneIs plan (is_beginning_again plan s) → (o : Option ℕ) → first_below (count plan) (is_best plan s) ≡ o → option_map (candidate_entry s) o ≡ Some w → Falls plan cost s w
    of none None found gives = absurd (cc)
    of none (Some a) found gives =
        let same : candidate_entry s a ≡ w = cc in
        subst (Falls plan cost s) same (taken_falls plan cost s a (s.state a) guarded within none (found_below (count plan) (is_best plan s) a found) refl
        (and_first (is_candidate plan s a) _ (found_passes (count plan) (is_best plan s) a found)))

-- a number whose atom a hand has in flight
ended_falls : (plan : Outline) (cost : ℕ → ℕ) (s : Snapshot) (a : ℕ) (x to : AtomState) (carried : Payload) → IsGuarded plan s → a < count plan → s.state a ≡ x → ends_as x to carried ≡ true → Falls plan cost s (what.Atom a to carried)
ended_falls plan cost s a atom.Running atom.Success carried guarded below was is = unsettled_falls plan cost s a atom.Running atom.Success carried guarded below was refl refl refl
ended_falls plan cost s a atom.Running atom.Failure carried guarded below was is = unsettled_falls plan cost s a atom.Running atom.Failure carried guarded below was refl refl refl
ended_falls plan cost s a atom.Reverting atom.Reverted carried guarded below was is = unsettled_falls plan cost s a atom.Reverting atom.Reverted carried guarded below was refl refl refl
ended_falls plan cost s a atom.Reverting atom.RevertFailure carried guarded below was is = unsettled_falls plan cost s a atom.Reverting atom.RevertFailure carried guarded below was refl refl refl
ended_falls plan cost s a atom.Running to carried guarded below was is = absurd (cc)
ended_falls plan cost s a atom.Reverting to carried guarded below was is = absurd (cc)
ended_falls plan cost s a x to carried guarded below was is = absurd (cc)

-- a hand ends a task that it has in flight
pub ends_falls : (plan : Outline) (cost : ℕ → ℕ) (s : Snapshot) (hand : ℕ) (w : What) → IsGuarded plan s → IsMarkedWithin plan s → ends_task s hand w ≡ true → Falls plan cost s w
unfolding ends_task
ends_falls plan cost s hand (what.Atom a to carried) guarded within is =
    let parts = and_second (flow_runs s.flow || flow_suspends s.flow) _ is in
    ended_falls plan cost s a (s.state a) to carried guarded (within.flying a hand (is_this_number (s.hand a) hand (and_first (is_number (s.hand a) hand) _ parts))) refl (and_second (is_number (s.hand a) hand) _ parts)
ends_falls plan cost s hand (what.Flow state) guarded within is = absurd (cc)
ends_falls plan cost s hand (what.Resolve named resolved) guarded within is = absurd (cc)
ends_falls plan cost s hand (what.Restart again) guarded within is = absurd (cc)

-- the flow is RUNNING or SUSPENDING
abbrev pub is_going : FlowState → Bool
is_going state = flow_runs state || flow_suspends state

turn_down : (plan : Outline) (cost : ℕ → ℕ) (s : Snapshot) (x f : FlowState) → s.flow ≡ x → is_going x ≡ true → f ≢ flow.Resuming → may_turn x f ≡ true → Falls plan cost s (what.Flow f)
turn_down plan cost s flow.Running flow.Suspending was going isnt is = turn_falls plan cost s flow.Suspending refl (subst (λ (y : FlowState). 1 < turn y) (sym was) (omega arith))
turn_down plan cost s flow.Running flow.Resuming was going isnt is = absurd (isnt refl)
turn_down plan cost s flow.Suspending flow.Resuming was going isnt is = absurd (isnt refl)
turn_down plan cost s x f was going isnt is = absurd (cc)

turns_falls : (plan : Outline) (cost : ℕ → ℕ) (s : Snapshot) (w : What) → is_going s.flow ≡ true → w ≢ what.Flow flow.Resuming → turns_flow s.flow w ≡ true → Falls plan cost s w
turns_falls plan cost s (what.Flow f) going isnt is = turn_down plan cost s s.flow f refl going (λ same. isnt (ap (λ (g : FlowState). what.Flow g) same)) is
turns_falls plan cost s (what.Atom a state held) going isnt is = absurd (cc)
turns_falls plan cost s (what.Resolve named resolved) going isnt is = absurd (cc)
turns_falls plan cost s (what.Restart again) going isnt is = absurd (cc)

going_turns : (x : FlowState) → is_going x ≡ true → 0 < turn x
going_turns flow.Running is = omega arith
going_turns flow.Suspending is = omega arith
going_turns x is = absurd (cc)

-- the flow ends
last_falls : (plan : Outline) (cost : ℕ → ℕ) (s : Snapshot) (f : FlowState) → is_going s.flow ≡ true → has_ended f ≡ true → Falls plan cost s (what.Flow f)
last_falls plan cost s flow.Success going is = turn_falls plan cost s flow.Success refl (going_turns s.flow going)
last_falls plan cost s flow.Failure going is = turn_falls plan cost s flow.Failure refl (going_turns s.flow going)
last_falls plan cost s flow.Reverted going is = turn_falls plan cost s flow.Reverted refl (going_turns s.flow going)
last_falls plan cost s f going is = absurd (cc)

closes_falls : (plan : Outline) (cost : ℕ → ℕ) (s : Snapshot) (w : What) → is_going s.flow ≡ true → end_entry plan s ≡ Some w → Falls plan cost s w
closes_falls plan cost s w going is = of (end_of plan s) refl is
  where
    of : (o : Option FlowState) → end_of plan s ≡ o → option_map what.Flow o ≡ Some w → Falls plan cost s w
    of None found gives = absurd (cc)
    of (Some f) found gives =
        let same : what.Flow f ≡ w = cc in
        subst (Falls plan cost s) same (last_falls plan cost s f going (end_is plan s f found).1)

-- a reset stands where the flow is REVERTED
reset_not_going : (plan : Outline) (s : Snapshot) (w : What) → is_going s.flow ≡ true → reset plan s ≡ Some w → ⊥
unfolding reset
reset_not_going plan s w going is =
    no (s.flow) going (and_first (flow_is_reverted s.flow) _ (if_some (flow_is_reverted s.flow && _) (put_back_or_rest (first_below (count plan) (is_put_back_at s))) w is).0)
  where
    no : (x : FlowState) → is_going x ≡ true → flow_is_reverted x ≡ true → ⊥
    no flow.Reverted going is = cc
    no x going is = cc

-- each entry of a flow that is RUNNING or SUSPENDING makes less owed, but for RESUMING
pub step_falls : (plan : Outline) (cost : ℕ → ℕ) (s : Snapshot) (e : Entry) → IsWeighed plan cost → ResolvesHolding plan → IsKept plan s → is_going s.flow ≡ true → e.what ≢ what.Flow flow.Resuming → Rule plan s e
    → left_with plan cost (later plan e s) < left_with plan cost s
unfolding may_suspend
step_falls plan cost s e weighed resolves kept going isnt rule = by rule e.hand
  where
    by : Rule plan s e → Falls plan cost s e.what
    by (by_force is) = active_falls plan cost s weighed resolves kept e.what is
    by (by_choice is free) = chosen_falls plan cost s kept.guarded kept.within e.what is
    by (by_end_of_task is) = ends_falls plan cost s e.hand e.what kept.guarded kept.within is
    by (by_turn is) = turns_falls plan cost s e.what going isnt is
    by (by_end is still) = closes_falls plan cost s e.what going is
    by (by_suspension is event) = subst (Falls plan cost s) (sym event) (turn_falls plan cost s flow.Suspended refl (going_turns s.flow going))
    by (by_reset is) = absurd (reset_not_going plan s e.what going is)
