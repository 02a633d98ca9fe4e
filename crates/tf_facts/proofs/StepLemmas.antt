-- Each step keeps what every moment has.
use Rattle.std.proofs.Common.{◌≡◌, ℕ, ◌<◌, true, false, ◌&&◌, ◌||◌, Option, Some, None, refl, sym, ap, ◌∙◌, ◌⊎◌, inl, inr, subst}
use Rattle.std.specs.Option.{option_map}
use Rattle.std.specs.Prelude.{is_none}
use Rattle.tf_states.specs.declared.record.Entry.{Entry}
use Rattle.tf_states.specs.declared.record.Payload.{Payload}
use Rattle.tf_states.specs.declared.record.Payload.TheVariants as payload
use Rattle.tf_states.specs.declared.record.What.{What}
use Rattle.tf_states.specs.declared.record.What.TheVariants as what
use Rattle.tf_states.specs.declared.state.AtomState.{AtomState}
use Rattle.tf_states.specs.declared.state.AtomState.TheVariants as atom
use Rattle.tf_states.specs.declared.state.FlowState.{FlowState}
use Rattle.tf_states.specs.declared.state.FlowState.TheVariants as flow
use Rattle.tf_numbers.specs.Numbers.{all_below, first_below, is_number}
use Rattle.tf_model.specs.Steps.{has_ended, Rule, by_force, by_choice, by_end_of_task, by_turn, by_end, by_suspension, by_reset, is_still, ends_task, ends_as, turns_flow, may_turn, end_entry, may_suspend, reset, put_back_or_rest, is_put_back_at, is_settled_at}
use Rattle.tf_model.specs.Plan.{Outline, count, is_task}
use Rattle.tf_model.specs.History.{Snapshot, later, is_at_work, is_pending, is_executed, is_settled, is_put_back, flow_runs, flow_suspends, flow_is_reverted}
use Rattle.tf_model.specs.Readiness.{can_run, can_revert}
use Rattle.tf_model.specs.Forced.{forced, is_active, reverting_entry, candidate_if_running, choice, candidate_entry, taken_up, is_best, is_candidate, is_interrupted, end_of}
use Rattle.tf_model.proofs.StepLemmas.{end_is}
use Rattle.tf_numbers.proofs.TruthLemmas.{and_first, and_second, or_either, true_second, clash}
use Rattle.tf_numbers.proofs.BelowLemmas.{found_passes, all_at, none_at}
use Rattle.tf_facts.specs.Facts.{is_undoing}
use Rattle.tf_facts.proofs.LayoutLemmas.{IsLaidOut, before_below}
use Rattle.tf_facts.proofs.CoreLemmas.{Core, AtRest}
use Rattle.tf_facts.proofs.ChangeLemmas.{runs_to_success, runs_to_failure, reverts_to_failure, may_put_back}
use Rattle.tf_facts.proofs.MoveLemmas.{Keeps, enters_kept, run_kept, runs, reverts}
use Rattle.tf_facts.proofs.RegionLemmas.{turn_kept, restart_kept, rest_kept}
use Rattle.tf_facts.proofs.CaseLemmas.{by_first}
use Rattle.tf_facts.proofs.ForcedLemmas.{forced_kept, flow_going, active_going, revert_kept, undone_kept}
use Rattle.tf_numbers.proofs.OptionLemmas.{only_if, if_some}
use Rattle.tf_facts.proofs.FinishLemmas.{end_rests}

-- ---- a task is taken up

-- a task that isn't at work is taken up since it can run or can revert
pub ready_part : (plan : Outline) (s : Snapshot) (a : ℕ) → is_candidate plan s a ≡ true → is_at_work (s.state a) ≡ false → (can_run plan s a ≡ true) ⊎ (can_revert plan s a ≡ true)
ready_part plan s a is idle = elim (or_either (is_interrupted plan s a) _ is) [
  | inl stopped ↦ absurd (clash (is_at_work (s.state a)) (and_first (is_at_work (s.state a)) _ (and_second (is_task plan a) _ stopped)) idle)
  | inr ready ↦ or_either (can_run plan s a) (can_revert plan s a) (and_second (is_task plan a) _ ready)
]

pending_not_executed : (x : AtomState) → x ≡ atom.Pending → is_executed x ≡ true → ⊥
pending_not_executed x is executed = clash (is_executed x) executed (ap is_executed is)

revert_only : (plan : Outline) (s : Snapshot) → IsLaidOut plan → flow_is_reverted s.flow ≡ false → (a : ℕ) (x : AtomState) → s.state a ≡ x → (can_run plan s a ≡ true) ⊎ (can_revert plan s a ≡ true)
    → is_pending x ≡ false → Keeps plan s (reverting_entry a)
revert_only plan s layout going a x was can isnt = elim can [
  | inl runs_now ↦ absurd (clash (is_pending (s.state a)) (ap is_pending (runs plan s a runs_now).pending) (ap is_pending was ∙ isnt))
  | inr reverts_now ↦ revert_kept plan s layout going a reverts_now
]

taken_kept : (plan : Outline) (s : Snapshot) → IsLaidOut plan → flow_is_reverted s.flow ≡ false → (a : ℕ) (x : AtomState) → s.state a ≡ x → is_candidate plan s a ≡ true → Keeps plan s (taken_up x a)
taken_kept plan s layout going a atom.Running was is = restart_kept plan s a
taken_kept plan s layout going a atom.Reverting was is = restart_kept plan s a
taken_kept plan s layout going a atom.Pending was is = elim (ready_part plan s a is (ap is_at_work was)) [
  | inl can ↦ run_kept plan s going a payload.Empty can
  | inr can ↦ absurd (pending_not_executed (s.state a) was (reverts plan s a can).executed)
]
taken_kept plan s layout going a atom.Success was is = revert_only plan s layout going a atom.Success was (ready_part plan s a is (ap is_at_work was)) refl
taken_kept plan s layout going a atom.Failure was is = revert_only plan s layout going a atom.Failure was (ready_part plan s a is (ap is_at_work was)) refl
taken_kept plan s layout going a atom.Reverted was is = revert_only plan s layout going a atom.Reverted was (ready_part plan s a is (ap is_at_work was)) refl
taken_kept plan s layout going a atom.RevertFailure was is = revert_only plan s layout going a atom.RevertFailure was (ready_part plan s a is (ap is_at_work was)) refl
taken_kept plan s layout going a atom.Ignore was is = revert_only plan s layout going a atom.Ignore was (ready_part plan s a is (ap is_at_work was)) refl
taken_kept plan s layout going a atom.Retrying was is = revert_only plan s layout going a atom.Retrying was (ready_part plan s a is (ap is_at_work was)) refl

candidate_kept : (plan : Outline) (s : Snapshot) → IsLaidOut plan → flow_is_reverted s.flow ≡ false → (w : What) → candidate_if_running plan s ≡ Some w → Keeps plan s w
unfolding candidate_if_running
candidate_kept plan s layout going w is = by_first plan (Keeps plan s) (is_best plan s) (candidate_entry s) w is
    (λ a below test. taken_kept plan s layout going a (s.state a) refl (and_first (is_candidate plan s a) _ test))

choice_kept : (plan : Outline) (s : Snapshot) → IsLaidOut plan → (w : What) → choice plan s ≡ Some w → Keeps plan s w
unfolding choice
choice_kept plan s layout w is =
    let parts = only_if (is_active plan s && is_none (forced plan s)) (candidate_if_running plan s) w is in
    candidate_kept plan s layout (active_going plan s (and_first (is_active plan s) _ parts.0)) w parts.1

-- ---- a task ends

ended_kept : (plan : Outline) (s : Snapshot) → flow_is_reverted s.flow ≡ false → (a : ℕ) (x to : AtomState) (held : Payload) → s.state a ≡ x → ends_as x to held ≡ true → Keeps plan s (what.Atom a to held)
ended_kept plan s going a atom.Running atom.Success held was is = enters_kept plan s a atom.Running atom.Success held was refl (λ core. runs_to_success plan s going a)
ended_kept plan s going a atom.Running atom.Failure held was is = enters_kept plan s a atom.Running atom.Failure held was refl (λ core. runs_to_failure plan s going a)
ended_kept plan s going a atom.Reverting atom.Reverted held was is = undone_kept plan s a held was
ended_kept plan s going a atom.Reverting atom.RevertFailure held was is =
    enters_kept plan s a atom.Reverting atom.RevertFailure held was refl (λ core. reverts_to_failure plan s going a (λ below. core.undone a below (ap is_undoing was)))
ended_kept plan s going a atom.Running to held was is = absurd (cc)
ended_kept plan s going a atom.Reverting to held was is = absurd (cc)
ended_kept plan s going a x to held was is = absurd (cc)

ends_kept : (plan : Outline) (s : Snapshot) (hand : ℕ) (w : What) → ends_task s hand w ≡ true → Keeps plan s w
unfolding ends_task
ends_kept plan s hand (what.Atom a to held) is =
    ended_kept plan s (flow_going s.flow (and_first (flow_runs s.flow || flow_suspends s.flow) _ is)) a (s.state a) to held refl (and_second (is_number (s.hand a) hand) _ (and_second (flow_runs s.flow || flow_suspends s.flow) _ is))
ends_kept plan s hand (what.Flow state) is = absurd (cc)
ends_kept plan s hand (what.Resolve named resolved) is = absurd (cc)
ends_kept plan s hand (what.Restart again) is = absurd (cc)

-- ---- the flow turns

turn_state_kept : (plan : Outline) (s : Snapshot) (x f : FlowState) → s.flow ≡ x → may_turn x f ≡ true → Keeps plan s (what.Flow f)
turn_state_kept plan s flow.Pending flow.Running was is = turn_kept plan s flow.Running refl (ap flow_is_reverted was) (λ core reverted. absurd (cc))
turn_state_kept plan s flow.Suspended flow.Running was is = turn_kept plan s flow.Running refl (ap flow_is_reverted was) (λ core reverted. absurd (cc))
turn_state_kept plan s flow.Running flow.Suspending was is = turn_kept plan s flow.Suspending refl (ap flow_is_reverted was) (λ core reverted. absurd (cc))
turn_state_kept plan s flow.Running flow.Resuming was is = turn_kept plan s flow.Resuming refl (ap flow_is_reverted was) (λ core reverted. absurd (cc))
turn_state_kept plan s flow.Suspending flow.Resuming was is = turn_kept plan s flow.Resuming refl (ap flow_is_reverted was) (λ core reverted. absurd (cc))
turn_state_kept plan s flow.Resuming flow.Suspended was is = turn_kept plan s flow.Suspended refl (ap flow_is_reverted was) (λ core reverted. absurd (cc))
turn_state_kept plan s x f was is = absurd (cc)

turns_kept : (plan : Outline) (s : Snapshot) (w : What) → turns_flow s.flow w ≡ true → Keeps plan s w
turns_kept plan s (what.Flow f) is = turn_state_kept plan s s.flow f refl is
turns_kept plan s (what.Atom a state held) is = absurd (cc)
turns_kept plan s (what.Resolve named resolved) is = absurd (cc)
turns_kept plan s (what.Restart again) is = absurd (cc)

last_kept : (plan : Outline) (s : Snapshot) (f : FlowState) → flow_is_reverted s.flow ≡ false → has_ended f ≡ true → (Core plan s → f ≡ flow.Reverted → AtRest plan s) → Keeps plan s (what.Flow f)
last_kept plan s flow.Success going is rest = turn_kept plan s flow.Success refl going (λ core reverted. absurd (cc))
last_kept plan s flow.Failure going is rest = turn_kept plan s flow.Failure refl going (λ core reverted. absurd (cc))
last_kept plan s flow.Reverted going is rest = turn_kept plan s flow.Reverted refl going (λ core reverted. rest core refl)
last_kept plan s f going is rest = absurd (cc)

closes_kept : (plan : Outline) (s : Snapshot) → IsLaidOut plan → (w : What) → end_entry plan s ≡ Some w → is_still plan s ≡ true → Keeps plan s w
closes_kept plan s layout w is still = of (end_of plan s) refl is
  where
    of : (o : Option FlowState) → end_of plan s ≡ o → option_map what.Flow o ≡ Some w → Keeps plan s w
    of None found gives = absurd (cc)
    of (Some f) found gives =
        let same : what.Flow f ≡ w = cc in
        let last = end_is plan s f found in
        subst (Keeps plan s) same (last_kept plan s f (flow_going s.flow last.0) last.1 (λ core reverted. end_rests plan s layout core still (found ∙ ap (λ (g : FlowState). Some g) reverted)))

suspends_kept : (plan : Outline) (s : Snapshot) (w : What) → may_suspend plan s ≡ true → w ≡ what.Flow flow.Suspended → Keeps plan s w
unfolding may_suspend
suspends_kept plan s w may is =
    subst (Keeps plan s) (sym is) (turn_kept plan s flow.Suspended refl (flow_going s.flow (true_second (flow_runs s.flow) _ (and_first (flow_suspends s.flow) _ may))) (λ core reverted. absurd (cc)))

-- ---- a reset

settled_pending : (x : AtomState) → is_settled x ≡ true → is_put_back x ≡ false → x ≡ atom.Pending
settled_pending atom.Pending settled back = refl
settled_pending x settled back = absurd (cc)

reset_one_kept : (plan : Outline) (s : Snapshot) → flow_is_reverted s.flow ≡ true → ((a : ℕ) → a < count plan → is_settled (s.state a) ≡ true) → (o : Option ℕ)
    → first_below (count plan) (is_put_back_at s) ≡ o → Keeps plan s (put_back_or_rest o)
reset_one_kept plan s reverted settled None found =
    rest_kept plan s (λ a below. settled_pending (s.state a) (settled a below) (none_at (count plan) (is_put_back_at s) a found below))
reset_one_kept plan s reverted settled (Some b) found =
    enters_kept plan s b (s.state b) atom.Pending payload.Empty refl refl
    (λ core. may_put_back plan s b (s.state b) (found_passes (count plan) (is_put_back_at s) b found)
    (λ x before. settled x (before_below plan b x before)) (λ going. absurd (clash (flow_is_reverted s.flow) reverted going)))

reset_kept : (plan : Outline) (s : Snapshot) (w : What) → reset plan s ≡ Some w → Keeps plan s w
unfolding reset
reset_kept plan s w is =
    let parts = if_some (flow_is_reverted s.flow && all_below (count plan) (is_settled_at s)) (put_back_or_rest (first_below (count plan) (is_put_back_at s))) w is in
    subst (Keeps plan s) parts.1 (reset_one_kept plan s (and_first (flow_is_reverted s.flow) _ parts.0)
    (λ a below. all_at (count plan) (is_settled_at s) a (and_second (flow_is_reverted s.flow) _ parts.0) below) (first_below (count plan) (is_put_back_at s)) refl)

-- each step keeps them
pub step_kept : (plan : Outline) (s : Snapshot) (e : Entry) → IsLaidOut plan → Rule plan s e → Core plan s → Core plan (later plan e s)
step_kept plan s e layout rule = by rule e.hand
  where
    by : Rule plan s e → Keeps plan s e.what
    by (by_force is) = forced_kept plan s layout e.what is
    by (by_choice is free) = choice_kept plan s layout e.what is
    by (by_end_of_task is) = ends_kept plan s e.hand e.what is
    by (by_turn is) = turns_kept plan s e.what is
    by (by_end is still) = closes_kept plan s layout e.what is still
    by (by_suspension is event) = suspends_kept plan s e.what is event
    by (by_reset is) = reset_kept plan s e.what is
