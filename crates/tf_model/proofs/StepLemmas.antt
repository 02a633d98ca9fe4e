-- Each step is an allowed transition.
use Rattle.std.proofs.Common.{◌≡◌, ℕ, List, [], ◌∷◌, Bool, true, false, not, ◌&&◌, ◌||◌, Option, Some, None, refl, sym, ap, ◌∙◌, inl, inr}
use Rattle.std.specs.Option.{option_or, option_map}
use Rattle.std.specs.Prelude.{if◌then◌else◌, is_none}
use Rattle.tf_states.specs.declared.record.Entry.{Entry}
use Rattle.tf_states.specs.declared.record.Payload.{Payload}
use Rattle.tf_states.specs.declared.record.Payload.TheVariants as payload
use Rattle.tf_states.specs.declared.record.What.{What}
use Rattle.tf_states.specs.declared.record.What.TheVariants as what
use Rattle.tf_states.specs.declared.state.AtomState.{AtomState}
use Rattle.tf_states.specs.declared.state.AtomState.TheVariants as atom
use Rattle.tf_states.specs.declared.state.FlowState.{FlowState}
use Rattle.tf_states.specs.declared.state.FlowState.TheVariants as flow
use Rattle.tf_states.specs.Transitions.{retry_may, flow_may}
use Rattle.tf_flow.specs.declared.deciders.Depth.{Depth}
use Rattle.tf_numbers.specs.Numbers.{all_below, first_below, is_number}
use Rattle.tf_model.specs.Plan.{Outline, count, is_retry, is_task}
use Rattle.tf_model.specs.History.{Snapshot, is_at_work, snapshot, is_pending, is_running, is_success, is_reverting, is_retrying, is_executed, is_put_back, flow_runs, flow_suspends, flow_is_reverted}
use Rattle.tf_model.specs.Readiness.{can_run, can_revert, is_unmarked, refused}
use Rattle.tf_model.specs.Retries.{attempt, ends_with}
use Rattle.tf_model.specs.Forced.{first_entry, forced_attempt, forced_again, forced_reverted, forced_resolution, forced_retrying, forced_revert, forced_ignore, forced_run, forced_if_running, forced, is_active, is_unhurt, is_attempting, attempt_entry, is_beginning_again, again_entry, is_to_put_back, put_back_or_run, is_undone_retry, reverted_entry, is_unresolved, resolution_entry, is_to_begin_again, retrying_entry, is_retry_to_revert, reverting_entry, is_refused, ignore_entry, ignore_by, ignore_or_self, is_to_ignore, ignored_entry, is_retry_to_run, running_entry, candidate_if_running, choice, candidate_entry, taken_up, is_best, is_candidate, is_interrupted, end_of, calm_end, is_done_at}
use Rattle.tf_model.specs.Steps.{Rule, by_force, by_choice, by_end_of_task, by_turn, by_end, by_suspension, by_reset, LegalPast, ends_task, ends_as, turns_flow, may_turn, end_entry, may_suspend, reset, put_back_or_rest, is_put_back_at, is_settled_at, has_ended}
use Rattle.tf_model.specs.Laws.{atom_may, is_allowed, HasAllowed}
use Rattle.tf_numbers.proofs.BelowLemmas.{found_passes}
use Rattle.tf_numbers.proofs.OptionLemmas.{if_some, option_either}
use Rattle.tf_numbers.proofs.TruthLemmas.{true_first, true_second, and_second, and_first, or_either}

-- ---- parts of tests

-- the number that is found passes the test
found_more : (n : ℕ) (test : ℕ → Bool) (a : ℕ) (o : Option ℕ) → ((c : ℕ) → o ≡ Some c → test c ≡ true) → (b : Bool) → test n ≡ b → option_or o (if b then Some n else None) ≡ Some a → test a ≡ true
found_more n test a (Some c) before b here is = before a is
found_more n test a None before true here is = let same : n ≡ a = cc in ap test (sym same) ∙ here
found_more n test a None before false here is = absurd (cc)

-- an atom that passes the test has this entry
pub record IsFirst (plan : Outline) (test : ℕ → Bool) (entry : ℕ → What) (w : What) : Type 0 where
  pub number : ℕ
  pub passes : test number ≡ true
  pub is : entry number ≡ w

first_of : (plan : Outline) (test : ℕ → Bool) (entry : ℕ → What) (w : What) (o : Option ℕ) → first_below (count plan) test ≡ o → option_map entry o ≡ Some w → IsFirst plan test entry w
first_of plan test entry w None found is = absurd (cc)
first_of plan test entry w (Some a) found is = record { number = a; passes = found_passes (count plan) test a found; is = let same : entry a ≡ w = cc in same }

pub first_is : (plan : Outline) (test : ℕ → Bool) (entry : ℕ → What) (w : What) → first_entry plan test entry ≡ Some w → IsFirst plan test entry w
first_is plan test entry w is = first_of plan test entry w (first_below (count plan) test) refl is

-- ---- pairs of states

running_ends : (b : Bool) (x : AtomState) → is_running x ≡ true → (atom_may b x atom.Success ≡ true) × (atom_may b x atom.Failure ≡ true)
running_ends true atom.Running is = (refl, refl)
running_ends false atom.Running is = (refl, refl)
running_ends b x is = absurd (cc)

retrying_runs : (x : AtomState) → is_retrying x ≡ true → retry_may x atom.Running ≡ true
retrying_runs atom.Retrying is = refl
retrying_runs x is = absurd (cc)

put_back_waits : (b : Bool) (x : AtomState) → is_put_back x ≡ true → atom_may b x atom.Pending ≡ true
put_back_waits true atom.Reverted is = refl
put_back_waits true atom.Ignore is = refl
put_back_waits false atom.Reverted is = refl
put_back_waits false atom.Ignore is = refl
put_back_waits b x is = absurd (cc)

reverting_ends : (b : Bool) (x : AtomState) → is_reverting x ≡ true → atom_may b x atom.Reverted ≡ true
reverting_ends true atom.Reverting is = refl
reverting_ends false atom.Reverting is = refl
reverting_ends b x is = absurd (cc)

success_retries : (x : AtomState) → is_success x ≡ true → retry_may x atom.Retrying ≡ true
success_retries atom.Success is = refl
success_retries x is = absurd (cc)

executed_reverts : (b : Bool) (x : AtomState) → is_executed x ≡ true → atom_may b x atom.Reverting ≡ true
executed_reverts true atom.Success is = refl
executed_reverts true atom.Failure is = refl
executed_reverts false atom.Success is = refl
executed_reverts false atom.Failure is = refl
executed_reverts b x is = absurd (cc)

pending_goes : (b : Bool) (x : AtomState) → is_pending x ≡ true → (atom_may b x atom.Running ≡ true) × (atom_may b x atom.Ignore ≡ true)
pending_goes true atom.Pending is = (refl, refl)
pending_goes false atom.Pending is = (refl, refl)
pending_goes b x is = absurd (cc)

-- ---- the rules

-- what is recorded is what the first atom's entry is
by_first : (plan : Outline) (s : Snapshot) (test : ℕ → Bool) (entry : ℕ → What) (w : What) → first_entry plan test entry ≡ Some w
    → ((a : ℕ) → test a ≡ true → is_allowed plan s (entry a) ≡ true) → is_allowed plan s w ≡ true
by_first plan s test entry w is each =
    let found = first_is plan test entry w is in
    ap (λ (v : What). is_allowed plan s v) (sym found.is) ∙ each found.number found.passes

attempt_allowed : (plan : Outline) (s : Snapshot) (r : ℕ) (p : Payload) → is_running (s.state r) ≡ true → is_allowed plan s (ends_with r p) ≡ true
attempt_allowed plan s r (payload.Value v) is = (running_ends (is_retry plan r) (s.state r) is).0
attempt_allowed plan s r (payload.Fault fault) is = (running_ends (is_retry plan r) (s.state r) is).1
attempt_allowed plan s r payload.Empty is = (running_ends (is_retry plan r) (s.state r) is).0

case_attempt : (plan : Outline) (s : Snapshot) (w : What) → forced_attempt plan s ≡ Some w → is_allowed plan s w ≡ true
unfolding forced_attempt
case_attempt plan s w is = by_first plan s (is_attempting plan s) (attempt_entry plan s) w is
    (λ a test. attempt_allowed plan s a (attempt plan s a) (and_second (is_retry plan a) (is_running (s.state a)) test))

as_retry : (b : Bool) (x y : AtomState) → b ≡ true → retry_may x y ≡ true → atom_may b x y ≡ true
as_retry true x y is may = may
as_retry false x y is may = absurd (cc)

again_allowed : (plan : Outline) (s : Snapshot) (r : ℕ) (o : Option ℕ) → is_retry plan r ≡ true → is_retrying (s.state r) ≡ true
    → ((a : ℕ) → o ≡ Some a → is_put_back (s.state a) ≡ true) → is_allowed plan s (put_back_or_run r o) ≡ true
again_allowed plan s r None is retrying each = as_retry (is_retry plan r) (s.state r) atom.Running is (retrying_runs (s.state r) retrying)
again_allowed plan s r (Some a) is retrying each = put_back_waits (is_retry plan a) (s.state a) (each a refl)

case_again : (plan : Outline) (s : Snapshot) (w : What) → forced_again plan s ≡ Some w → is_allowed plan s w ≡ true
unfolding forced_again
case_again plan s w is = by_first plan s (is_beginning_again plan s) (again_entry plan s) w is
    (λ r test. again_allowed plan s r (first_below (count plan) (is_to_put_back plan s r)) (and_first (is_retry plan r) (is_retrying (s.state r)) test) (and_second (is_retry plan r) (is_retrying (s.state r)) test)
    (λ a found. and_second _ (is_put_back (s.state a)) (found_passes (count plan) (is_to_put_back plan s r) a found)))

case_reverted : (plan : Outline) (s : Snapshot) (w : What) → forced_reverted plan s ≡ Some w → is_allowed plan s w ≡ true
unfolding forced_reverted
case_reverted plan s w is = by_first plan s (is_undone_retry plan s) reverted_entry w is
    (λ r test. reverting_ends (is_retry plan r) (s.state r) (and_second (is_retry plan r) (is_reverting (s.state r)) test))

case_resolution : (plan : Outline) (s : Snapshot) (w : What) → forced_resolution plan s ≡ Some w → is_allowed plan s w ≡ true
unfolding forced_resolution
case_resolution plan s w is = by_first plan s (is_unresolved s) (resolution_entry plan s) w is (λ a test. refl)

case_retrying : (plan : Outline) (s : Snapshot) (w : What) → forced_retrying plan s ≡ Some w → is_allowed plan s w ≡ true
unfolding forced_retrying
case_retrying plan s w is = by_first plan s (is_to_begin_again plan s) retrying_entry w is
    (λ r test. let state = and_first (is_retry plan r && is_success (s.state r)) _ test in
    as_retry (is_retry plan r) (s.state r) atom.Retrying (and_first (is_retry plan r) (is_success (s.state r)) state)
    (success_retries (s.state r) (and_second (is_retry plan r) (is_success (s.state r)) state)))

pub revert_executed : (plan : Outline) (s : Snapshot) (a : ℕ) → can_revert plan s a ≡ true → is_executed (s.state a) ≡ true
unfolding can_revert
revert_executed plan s a is = and_first (is_executed (s.state a)) (not (is_unmarked s a)) (and_first (is_executed (s.state a) && not (is_unmarked s a)) _ is)

pub run_pending : (plan : Outline) (s : Snapshot) (a : ℕ) → can_run plan s a ≡ true → is_pending (s.state a) ≡ true
unfolding can_run
run_pending plan s a is = and_first (is_pending (s.state a)) (is_unmarked s a) (and_first (is_pending (s.state a) && is_unmarked s a) _ is)

case_revert : (plan : Outline) (s : Snapshot) (w : What) → forced_revert plan s ≡ Some w → is_allowed plan s w ≡ true
unfolding forced_revert
case_revert plan s w is = by_first plan s (is_retry_to_revert plan s) reverting_entry w is
    (λ r test. executed_reverts (is_retry plan r) (s.state r) (revert_executed plan s r (and_second (is_retry plan r) (can_revert plan s r) test)))

ignored_allowed : (plan : Outline) (s : Snapshot) (a : ℕ) → is_pending (s.state a) ≡ true → is_allowed plan s (ignored_entry a) ≡ true
ignored_allowed plan s a is = (pending_goes (is_retry plan a) (s.state a) is).1

ignore_allowed : (plan : Outline) (s : Snapshot) (v : ℕ) (o : Option ℕ) → is_pending (s.state v) ≡ true → ((a : ℕ) → o ≡ Some a → is_pending (s.state a) ≡ true) → is_allowed plan s (ignore_or_self v o) ≡ true
ignore_allowed plan s v None is each = ignored_allowed plan s v is
ignore_allowed plan s v (Some a) is each = ignored_allowed plan s a (each a refl)

depth_allowed : (plan : Outline) (s : Snapshot) (v : ℕ) (how : Option Depth) → is_pending (s.state v) ≡ true → is_allowed plan s (ignore_by plan s v how) ≡ true
depth_allowed plan s v None is = ignored_allowed plan s v is
depth_allowed plan s v (Some how) is = ignore_allowed plan s v (first_below (count plan) (is_to_ignore plan s v how)) is
    (λ a found. and_first (is_pending (s.state a)) _ (and_second _ _ (found_passes (count plan) (is_to_ignore plan s v how) a found)))

case_ignore : (plan : Outline) (s : Snapshot) (w : What) → forced_ignore plan s ≡ Some w → is_allowed plan s w ≡ true
unfolding forced_ignore
case_ignore plan s w is = by_first plan s (is_refused plan s) (ignore_entry plan s) w is
    (λ v test. depth_allowed plan s v (refused plan s v) (run_pending plan s v (and_first (can_run plan s v) _ test)))

case_run : (plan : Outline) (s : Snapshot) (w : What) → forced_run plan s ≡ Some w → is_allowed plan s w ≡ true
unfolding forced_run
case_run plan s w is = by_first plan s (is_retry_to_run plan s) running_entry w is
    (λ r test. (pending_goes (is_retry plan r) (s.state r) (run_pending plan s r (and_second (is_retry plan r) (can_run plan s r) test))).0)

-- one of two cases applies
by_cases : (plan : Outline) (s : Snapshot) (w : What) (x y : Option What) → (x ≡ Some w → is_allowed plan s w ≡ true) → (y ≡ Some w → is_allowed plan s w ≡ true)
    → option_or x y ≡ Some w → is_allowed plan s w ≡ true
by_cases plan s w x y first second is = elim (option_either x y w is) [ inl a ↦ first a | inr b ↦ second b ]

forced_running_allowed : (plan : Outline) (s : Snapshot) (w : What) → forced_if_running plan s ≡ Some w → is_allowed plan s w ≡ true
unfolding forced_if_running
forced_running_allowed plan s w =
    by_cases plan s w (forced_attempt plan s) _ (case_attempt plan s w)
    (by_cases plan s w (forced_again plan s) _ (case_again plan s w)
    (by_cases plan s w (forced_reverted plan s) _ (case_reverted plan s w)
    (by_cases plan s w (forced_resolution plan s) _ (case_resolution plan s w)
    (by_cases plan s w (forced_retrying plan s) _ (case_retrying plan s w)
    (by_cases plan s w (forced_revert plan s) _ (case_revert plan s w)
    (by_cases plan s w (forced_ignore plan s) (forced_run plan s) (case_ignore plan s w) (case_run plan s w)))))))

only_if : (b : Bool) (x : Option What) (w : What) → (if b then x else None) ≡ Some w → x ≡ Some w
only_if true x w is = is
only_if false x w is = absurd (cc)

forced_allowed : (plan : Outline) (s : Snapshot) (w : What) → forced plan s ≡ Some w → is_allowed plan s w ≡ true
unfolding forced
forced_allowed plan s w is = forced_running_allowed plan s w (only_if (is_active plan s) (forced_if_running plan s) w is)

-- a candidate is at work, PENDING or executed
candidate_state : (plan : Outline) (s : Snapshot) (a : ℕ) → is_candidate plan s a ≡ true → is_at_work (s.state a) || (is_pending (s.state a) || is_executed (s.state a)) ≡ true
candidate_state plan s a is = elim (or_either (is_interrupted plan s a) _ is) [
  | inl stopped ↦ true_first (is_at_work (s.state a)) _ (and_first (is_at_work (s.state a)) _ (and_second (is_task plan a) _ stopped))
  | inr ready ↦ true_second (is_at_work (s.state a)) _ (elim (or_either (can_run plan s a) (can_revert plan s a) (and_second (is_task plan a) _ ready)) [
    | inl runs ↦ true_first (is_pending (s.state a)) _ (run_pending plan s a runs)
    | inr reverts ↦ true_second (is_pending (s.state a)) _ (revert_executed plan s a reverts)
  ])
]

taken_allowed : (plan : Outline) (s : Snapshot) (a : ℕ) (b : Bool) (x : AtomState) → is_retry plan a ≡ b → s.state a ≡ x → is_at_work x || (is_pending x || is_executed x) ≡ true
    → is_allowed plan s (taken_up x a) ≡ true
taken_allowed plan s a b atom.Running which was is = refl
taken_allowed plan s a b atom.Reverting which was is = refl
taken_allowed plan s a b atom.Pending which was is = rw (was, which) (pending_goes b atom.Pending refl).0
taken_allowed plan s a b atom.Success which was is = rw (was, which) (executed_reverts b atom.Success refl)
taken_allowed plan s a b atom.Failure which was is = rw (was, which) (executed_reverts b atom.Failure refl)
taken_allowed plan s a b x which was is = absurd (cc)

candidate_allowed : (plan : Outline) (s : Snapshot) (w : What) → candidate_if_running plan s ≡ Some w → is_allowed plan s w ≡ true
unfolding candidate_if_running
candidate_allowed plan s w is = by_first plan s (is_best plan s) (candidate_entry s) w is
    (λ a test. taken_allowed plan s a (is_retry plan a) (s.state a) refl refl (candidate_state plan s a (and_first (is_candidate plan s a) _ test)))

choice_allowed : (plan : Outline) (s : Snapshot) (w : What) → choice plan s ≡ Some w → is_allowed plan s w ≡ true
unfolding choice
choice_allowed plan s w is = candidate_allowed plan s w (only_if (is_active plan s && is_none (forced plan s)) (candidate_if_running plan s) w is)

ends_as_may : (b : Bool) (x y : AtomState) (held : Payload) → ends_as x y held ≡ true → atom_may b x y ≡ true
ends_as_may true atom.Running atom.Success held is = refl
ends_as_may false atom.Running atom.Success held is = refl
ends_as_may true atom.Running atom.Failure held is = refl
ends_as_may false atom.Running atom.Failure held is = refl
ends_as_may true atom.Reverting atom.Reverted held is = refl
ends_as_may false atom.Reverting atom.Reverted held is = refl
ends_as_may true atom.Reverting atom.RevertFailure held is = refl
ends_as_may false atom.Reverting atom.RevertFailure held is = refl
ends_as_may b atom.Running y held is = absurd (cc)
ends_as_may b atom.Reverting y held is = absurd (cc)
ends_as_may b x y held is = absurd (cc)

ended_allowed : (plan : Outline) (s : Snapshot) (hand : ℕ) (w : What) → ends_task s hand w ≡ true → is_allowed plan s w ≡ true
unfolding ends_task
ended_allowed plan s hand (what.Atom a state held) is =
    ends_as_may (is_retry plan a) (s.state a) state held (and_second (is_number (s.hand a) hand) _ (and_second (flow_runs s.flow || flow_suspends s.flow) _ is))
ended_allowed plan s hand (what.Flow state) is = absurd (cc)
ended_allowed plan s hand (what.Resolve named resolved) is = refl
ended_allowed plan s hand (what.Restart again) is = refl

turn_may : (x y : FlowState) → may_turn x y ≡ true → flow_may x y ≡ true
turn_may flow.Pending flow.Running is = refl
turn_may flow.Suspended flow.Running is = refl
turn_may flow.Running flow.Suspending is = refl
turn_may flow.Running flow.Resuming is = refl
turn_may flow.Suspending flow.Resuming is = refl
turn_may flow.Resuming flow.Suspended is = refl
turn_may x y is = absurd (cc)

turned_allowed : (plan : Outline) (s : Snapshot) (w : What) → turns_flow s.flow w ≡ true → is_allowed plan s w ≡ true
turned_allowed plan s (what.Flow state) is = turn_may s.flow state is
turned_allowed plan s (what.Atom a state held) is = absurd (cc)
turned_allowed plan s (what.Resolve named resolved) is = refl
turned_allowed plan s (what.Restart again) is = refl

-- ---- turns of the flow

may_end : (x f : FlowState) → flow_runs x || flow_suspends x ≡ true → has_ended f ≡ true → flow_may x f ≡ true
may_end flow.Running flow.Success is last = refl
may_end flow.Running flow.Failure is last = refl
may_end flow.Running flow.Reverted is last = refl
may_end flow.Suspending flow.Success is last = refl
may_end flow.Suspending flow.Failure is last = refl
may_end flow.Suspending flow.Reverted is last = refl
may_end flow.Running f is last = absurd (cc)
may_end flow.Suspending f is last = absurd (cc)
may_end x f is last = absurd (cc)

calm_is_last : (done rests : Bool) (f : FlowState) → (if done then Some flow.Success else if rests then Some flow.Reverted else None) ≡ Some f → has_ended f ≡ true
calm_is_last true rests f is = let same : flow.Success ≡ f = cc in ap has_ended (sym same)
calm_is_last false true f is = let same : flow.Reverted ≡ f = cc in ap has_ended (sym same)
calm_is_last false false f is = absurd (cc)

pub calm_ends : (plan : Outline) (s : Snapshot) (f : FlowState) → calm_end plan s ≡ Some f → has_ended f ≡ true
unfolding calm_end
calm_ends plan s f is = calm_is_last (all_below (count plan) (is_done_at s)) _ f is

end_is_last : (begun unhurt calm : Bool) (c : Option FlowState) (f : FlowState) → (c ≡ Some f → has_ended f ≡ true)
    → (if begun then (if unhurt then (if calm then c else None) else Some flow.Failure) else None) ≡ Some f → (begun ≡ true) × (has_ended f ≡ true)
end_is_last true true true c f each is = (refl, each is)
end_is_last true true false c f each is = absurd (cc)
end_is_last true false calm c f each is = let same : flow.Failure ≡ f = cc in (refl, ap has_ended (sym same))
end_is_last false unhurt calm c f each is = absurd (cc)

-- an end is one of the three last states, and comes while the flow is RUNNING or SUSPENDING
pub end_is : (plan : Outline) (s : Snapshot) (f : FlowState) → end_of plan s ≡ Some f → (flow_runs s.flow || flow_suspends s.flow ≡ true) × (has_ended f ≡ true)
unfolding end_of
end_is plan s f is = end_is_last (flow_runs s.flow || flow_suspends s.flow) (is_unhurt plan s) (is_none (forced_if_running plan s)) (calm_end plan s) f (calm_ends plan s f) is

closed_by : (plan : Outline) (s : Snapshot) (w : What) (o : Option FlowState) → end_of plan s ≡ o → option_map what.Flow o ≡ Some w → is_allowed plan s w ≡ true
closed_by plan s w None found is = absurd (cc)
closed_by plan s w (Some f) found is =
    let same : what.Flow f ≡ w = cc in
    ap (λ (v : What). is_allowed plan s v) (sym same) ∙ may_end s.flow f (end_is plan s f found).0 (end_is plan s f found).1

closed_allowed : (plan : Outline) (s : Snapshot) (w : What) → end_entry plan s ≡ Some w → is_allowed plan s w ≡ true
closed_allowed plan s w is = closed_by plan s w (end_of plan s) refl is

suspending_may : (x : FlowState) → flow_suspends x ≡ true → flow_may x flow.Suspended ≡ true
suspending_may flow.Suspending is = refl
suspending_may x is = absurd (cc)

suspended_allowed : (plan : Outline) (s : Snapshot) (w : What) → may_suspend plan s ≡ true → w ≡ what.Flow flow.Suspended → is_allowed plan s w ≡ true
unfolding may_suspend
suspended_allowed plan s w is event = ap (λ (v : What). is_allowed plan s v) event ∙ suspending_may s.flow (and_first (flow_suspends s.flow) _ is)

reverted_may : (x : FlowState) → flow_is_reverted x ≡ true → flow_may x flow.Pending ≡ true
reverted_may flow.Reverted is = refl
reverted_may x is = absurd (cc)

reset_by : (plan : Outline) (s : Snapshot) (o : Option ℕ) → flow_is_reverted s.flow ≡ true → ((a : ℕ) → o ≡ Some a → is_put_back (s.state a) ≡ true) → is_allowed plan s (put_back_or_rest o) ≡ true
reset_by plan s None is each = reverted_may s.flow is
reset_by plan s (Some a) is each = put_back_waits (is_retry plan a) (s.state a) (each a refl)

reset_allowed : (plan : Outline) (s : Snapshot) (w : What) → reset plan s ≡ Some w → is_allowed plan s w ≡ true
unfolding reset
reset_allowed plan s w is =
    let found = if_some (flow_is_reverted s.flow && all_below (count plan) (is_settled_at s)) (put_back_or_rest (first_below (count plan) (is_put_back_at s))) w is in
    ap (λ (v : What). is_allowed plan s v) (sym found.1)
    ∙ reset_by plan s (first_below (count plan) (is_put_back_at s)) (and_first (flow_is_reverted s.flow) _ found.0) (λ a at. found_passes (count plan) (is_put_back_at s) a at)

-- each step is an allowed transition
pub step_allowed : (plan : Outline) (s : Snapshot) (e : Entry) → Rule plan s e → is_allowed plan s e.what ≡ true
step_allowed plan s e (by_force is) = forced_allowed plan s e.what is
step_allowed plan s e (by_choice is free) = choice_allowed plan s e.what is
step_allowed plan s e (by_end_of_task is) = ended_allowed plan s e.hand e.what is
step_allowed plan s e (by_turn is) = turned_allowed plan s e.what is
step_allowed plan s e (by_end is still) = closed_allowed plan s e.what is
step_allowed plan s e (by_suspension is event) = suspended_allowed plan s e.what is event
step_allowed plan s e (by_reset is) = reset_allowed plan s e.what is

-- each entry of a legal history is an allowed transition
pub past_allowed : (plan : Outline) (past : List Entry) → LegalPast plan past → HasAllowed plan past
past_allowed plan [] legal = tt
past_allowed plan (e ∷ past) legal = (step_allowed plan (snapshot plan past) e legal.0.rule, past_allowed plan past legal.1)
