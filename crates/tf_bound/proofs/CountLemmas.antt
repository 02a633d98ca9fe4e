-- Each entry keeps the attempts counted, and what is marked or in flight within the plan.
use Rattle.std.proofs.Common.{◌≡◌, ℕ, zero, suc, ◌<◌, List, [], ◌∷◌, length, true, ◌&&◌, ◌||◌, Option, Some, None, refl, sym, ap, inl, inr, subst, arith, slice_get}
use Rattle.std.specs.Option.{option_map}
use Rattle.std.specs.Prelude.{is_none}
use Rattle.tf_states.specs.declared.record.Entry.{Entry}
use Rattle.tf_states.specs.declared.record.Payload.{Payload}
use Rattle.tf_states.specs.declared.record.Payload.TheVariants as payload
use Rattle.tf_states.specs.declared.record.What.{What}
use Rattle.tf_states.specs.declared.record.What.TheVariants as what
use Rattle.tf_states.specs.declared.state.AtomState.{AtomState}
use Rattle.tf_states.specs.declared.state.AtomState.TheVariants as atom
use Rattle.tf_states.specs.declared.state.FlowState.{FlowState}
use Rattle.tf_flow.specs.declared.deciders.Depth.{Depth}
use Rattle.tf_numbers.specs.Numbers.{first_below, is_number}
use Rattle.tf_flow.specs.Outline.{Atom}
use Rattle.tf_model.specs.Plan.{Outline, count, is_retry, retry_of, own_flow}
use Rattle.tf_model.specs.History.{Snapshot, is_again, is_running, is_success, flow_runs, flow_suspends}
use Rattle.tf_model.specs.Readiness.{refused}
use Rattle.tf_model.specs.Retries.{attempt, ends_with, resolution}
use Rattle.tf_model.specs.Forced.{put_back_or_run, is_to_put_back, is_attempting, is_marked_again, is_to_begin_again, ignore_by, ignore_or_self, is_to_ignore, forced, forced_if_running, is_active, candidate_if_running, choice, candidate_entry, taken_up, is_best, end_of}
use Rattle.tf_model.proofs.Told.{is_retry_in}
use Rattle.tf_model.specs.Steps.{Rule, by_force, by_choice, by_end_of_task, by_turn, by_end, by_suspension, by_reset, ends_task, ends_as, turns_flow, end_entry, reset, put_back_or_rest, is_put_back_at}
use Rattle.tf_numbers.proofs.TruthLemmas.{and_first, and_second, clash, either_way, true_both}
use Rattle.tf_facts.proofs.LayoutLemmas.{IsLaidOut}
use Rattle.tf_numbers.proofs.BelowLemmas.{found_below}
use Rattle.tf_numbers.proofs.OptionLemmas.{only_if, if_some}
use Rattle.tf_bound.specs.Costs.{tries_at}
use Rattle.tf_bound.specs.Kept.{MayTryAgain}
use Rattle.tf_bound.specs.Short.{ShowsShort, IsWithinLimits}
use Rattle.tf_facts.proofs.CaseLemmas.{NoneIs, forced_by}
use Rattle.tf_bound.proofs.PlaceLemmas.{StandsIn, one_controller}
use Rattle.tf_bound.proofs.AnswerLemmas.{again_fewer, resolution_answered}

-- ---- what an entry asks for

-- a retry controller that becomes RETRYING was SUCCESS, and a resolve of its own flow is to run it again
pub record BeginsAgain (plan : Outline) (s : Snapshot) (a : ℕ) : Type 0 where
  pub success : is_success (s.state a) ≡ true
  pub retry : is_retry plan a ≡ true
  pub marked : is_marked_again (own_flow plan a) (s.mark a) ≡ true

-- what an entry of an atom asks for, by the state that it enters
abbrev pub StateAsks : Outline → Snapshot → ℕ → AtomState → Type 0
StateAsks plan s a atom.Retrying = BeginsAgain plan s a
StateAsks plan s a atom.Success = is_running (s.state a) ≡ true
StateAsks plan s a state = Unit {0}

-- what an entry asks for: a resolve to run a flow again comes where its retry controller may try again, and what is
-- restarted is an atom of the plan
abbrev pub Asks : Outline → Snapshot → What → Type 0
Asks plan s (what.Atom a state held) = StateAsks plan s a state
Asks plan s (what.Flow state) = Unit {0}
Asks plan s (what.Resolve named how) = is_again how ≡ true → (r : ℕ) → is_retry plan r ≡ true → own_flow plan r ≡ Some named → MayTryAgain plan s r
Asks plan s (what.Restart again) = again < count plan

-- ---- each rule gives it

-- of a plan: the retry controller that a flow leads to stands in it itself
abbrev pub ControlsStand : Outline → Type 0
ControlsStand plan = (g r : ℕ) → retry_of plan g ≡ Some r → StandsIn plan g r

attempt_asks : (plan : Outline) (s : Snapshot) (r : ℕ) (p : Payload) → is_running (s.state r) ≡ true → Asks plan s (ends_with r p)
attempt_asks plan s r (payload.Value v) is = is
attempt_asks plan s r (payload.Fault fault) is = tt
attempt_asks plan s r payload.Empty is = is

again_asks : (plan : Outline) (s : Snapshot) (r : ℕ) (o : Option ℕ) → Asks plan s (put_back_or_run r o)
again_asks plan s r None = tt
again_asks plan s r (Some b) = tt

ignore_asks : (plan : Outline) (s : Snapshot) (v : ℕ) (how : Option Depth) → Asks plan s (ignore_by plan s v how)
ignore_asks plan s v None = tt
ignore_asks plan s v (Some how) = by (first_below (count plan) (is_to_ignore plan s v how))
  where
    by : (o : Option ℕ) → Asks plan s (ignore_or_self v o)
    by None = tt
    by (Some b) = tt

is_retry_below : (xs : List Atom) (k : ℕ) → is_retry_in (slice_get xs k) ≡ true → k < length xs
is_retry_below [] k is = absurd (cc)
is_retry_below (x ∷ xs) zero is = omega arith
is_retry_below (x ∷ xs) (suc k) is = let below : k < length xs = is_retry_below xs k is in omega (arith, below)

pub retry_below : (plan : Outline) (r : ℕ) → is_retry plan r ≡ true → r < count plan
retry_below plan r is = is_retry_below plan.atoms r is

-- the retry controller of a flow that is resolved to run again has attempts left and isn't at work
resolve_asks : (plan : Outline) (s : Snapshot) (a : ℕ) → IsLaidOut plan → ControlsStand plan → IsWithinLimits plan → ShowsShort s → NoneIs plan (is_attempting plan s)
    → Asks plan s (what.Resolve (resolution plan s a).flow (resolution plan s a).kind)
resolve_asks plan s a layout stands limits shows none again r retry own =
    let answered = resolution_answered plan s a again in
    let same : answered.number ≡ r = one_controller plan layout (resolution plan s a).flow answered.number r (stands (resolution plan s a).flow answered.number answered.controls) (record { retry = retry; own = own }) in
    record {
      fewer = subst (λ (k : ℕ). s.attempts k < tries_at plan k) same (again_fewer plan s answered.number limits shows answered.again);
      resting = elim (either_way (is_running (s.state r))) [
        | inr isnt ↦ isnt
        | inl running ↦ absurd (clash (is_attempting plan s r) (true_both (is_retry plan r) _ retry running) (none r (retry_below plan r retry)))
      ];
    }

retrying_asks : (plan : Outline) (s : Snapshot) (r : ℕ) → is_to_begin_again plan s r ≡ true → BeginsAgain plan s r
retrying_asks plan s r test =
    let state = and_first (is_retry plan r && is_success (s.state r)) _ test in
    record {
      success = and_second (is_retry plan r) _ state;
      retry = and_first (is_retry plan r) _ state;
      marked = and_first (is_marked_again (own_flow plan r) (s.mark r)) _ (and_second (is_retry plan r && is_success (s.state r)) _ test);
    }

forced_asks : (plan : Outline) (s : Snapshot) → IsLaidOut plan → ControlsStand plan → IsWithinLimits plan → ShowsShort s → (w : What) → forced_if_running plan s ≡ Some w → Asks plan s w
forced_asks plan s layout stands limits shows = forced_by plan s (Asks plan s) (record {
  attempt = λ r below test. attempt_asks plan s r (attempt plan s r) (and_second (is_retry plan r) _ test);
  again = λ r below test. again_asks plan s r (first_below (count plan) (is_to_put_back plan s r));
  reverted = λ r below test. tt;
  resolution = λ none a below test. resolve_asks plan s a layout stands limits shows none;
  retrying = λ r below test. retrying_asks plan s r test;
  revert = λ r below test. tt;
  ignore = λ none v below test. ignore_asks plan s v (refused plan s v);
  run = λ none r below test. tt;
})

taken_asks : (plan : Outline) (s : Snapshot) (a : ℕ) (x : AtomState) → a < count plan → Asks plan s (taken_up x a)
taken_asks plan s a atom.Running below = below
taken_asks plan s a atom.Reverting below = below
taken_asks plan s a atom.Pending below = tt
taken_asks plan s a atom.Success below = tt
taken_asks plan s a atom.Failure below = tt
taken_asks plan s a atom.Reverted below = tt
taken_asks plan s a atom.RevertFailure below = tt
taken_asks plan s a atom.Ignore below = tt
taken_asks plan s a atom.Retrying below = tt

chosen_asks : (plan : Outline) (s : Snapshot) (w : What) → choice plan s ≡ Some w → Asks plan s w
unfolding choice candidate_if_running
chosen_asks plan s w is = of (first_below (count plan) (is_best plan s)) refl (only_if (is_active plan s && is_none (forced plan s)) (candidate_if_running plan s) w is).1
  where
    of : (o : Option ℕ) → first_below (count plan) (is_best plan s) ≡ o → option_map (candidate_entry s) o ≡ Some w → Asks plan s w
    of None found gives = absurd (cc)
    of (Some a) found gives =
        let same : candidate_entry s a ≡ w = cc in
        subst (Asks plan s) same (taken_asks plan s a (s.state a) (found_below (count plan) (is_best plan s) a found))

ended_asks : (plan : Outline) (s : Snapshot) (a : ℕ) (x to : AtomState) (carried : Payload) → s.state a ≡ x → ends_as x to carried ≡ true → StateAsks plan s a to
ended_asks plan s a atom.Running atom.Success carried was is = ap is_running was
ended_asks plan s a atom.Running atom.Failure carried was is = tt
ended_asks plan s a atom.Reverting atom.Reverted carried was is = tt
ended_asks plan s a atom.Reverting atom.RevertFailure carried was is = tt
ended_asks plan s a atom.Running to carried was is = absurd (cc)
ended_asks plan s a atom.Reverting to carried was is = absurd (cc)
ended_asks plan s a x to carried was is = absurd (cc)

ends_asks : (plan : Outline) (s : Snapshot) (hand : ℕ) (w : What) → ends_task s hand w ≡ true → Asks plan s w
unfolding ends_task
ends_asks plan s hand (what.Atom a to carried) is =
    ended_asks plan s a (s.state a) to carried refl (and_second (is_number (s.hand a) hand) _ (and_second (flow_runs s.flow || flow_suspends s.flow) _ is))
ends_asks plan s hand (what.Flow state) is = tt
ends_asks plan s hand (what.Resolve named how) is = absurd (cc)
ends_asks plan s hand (what.Restart again) is = absurd (cc)

turns_asks : (plan : Outline) (s : Snapshot) (w : What) → turns_flow s.flow w ≡ true → Asks plan s w
turns_asks plan s (what.Flow f) is = tt
turns_asks plan s (what.Atom a state held) is = absurd (cc)
turns_asks plan s (what.Resolve named how) is = absurd (cc)
turns_asks plan s (what.Restart again) is = absurd (cc)

closes_asks : (plan : Outline) (s : Snapshot) (w : What) → end_entry plan s ≡ Some w → Asks plan s w
closes_asks plan s w is = of (end_of plan s) is
  where
    of : (o : Option FlowState) → option_map what.Flow o ≡ Some w → Asks plan s w
    of None gives = absurd (cc)
    of (Some f) gives = let same : what.Flow f ≡ w = cc in subst (Asks plan s) same tt

reset_asks : (plan : Outline) (s : Snapshot) (w : What) → reset plan s ≡ Some w → Asks plan s w
unfolding reset
reset_asks plan s w is = subst (Asks plan s) (if_some _ (put_back_or_rest (first_below (count plan) (is_put_back_at s))) w is).1 (of (first_below (count plan) (is_put_back_at s)))
  where
    of : (o : Option ℕ) → Asks plan s (put_back_or_rest o)
    of None = tt
    of (Some b) = tt

pub rule_asks : (plan : Outline) (s : Snapshot) (e : Entry) → IsLaidOut plan → ControlsStand plan → IsWithinLimits plan → ShowsShort s → Rule plan s e → Asks plan s e.what
unfolding forced
rule_asks plan s e layout stands limits shows (by_force is) = forced_asks plan s layout stands limits shows e.what (only_if (is_active plan s) (forced_if_running plan s) e.what is).1
rule_asks plan s e layout stands limits shows (by_choice is free) = chosen_asks plan s e.what is
rule_asks plan s e layout stands limits shows (by_end_of_task is) = ends_asks plan s e.hand e.what is
rule_asks plan s e layout stands limits shows (by_turn is) = turns_asks plan s e.what is
rule_asks plan s e layout stands limits shows (by_end is still) = closes_asks plan s e.what is
rule_asks plan s e layout stands limits shows (by_suspension is event) = subst (Asks plan s) (sym event) tt
rule_asks plan s e layout stands limits shows (by_reset is) = reset_asks plan s e.what is
