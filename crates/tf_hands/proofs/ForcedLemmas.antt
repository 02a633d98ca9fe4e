-- What is forced leaves tasks alone.
use Rattle.std.proofs.Common.{◌≡◌, ℕ, Bool, true, false, not, ◌&&◌, ◌||◌, Option, Some, None, refl, ap, slice_get}
use Rattle.std.specs.Prelude.{if◌then◌else◌}
use Rattle.tf_states.specs.declared.record.Payload.{Payload}
use Rattle.tf_states.specs.declared.record.Payload.TheVariants as payload
use Rattle.tf_states.specs.declared.record.What.{What}
use Rattle.tf_states.specs.declared.record.What.TheVariants as what
use Rattle.tf_states.specs.declared.state.AtomState.{AtomState}
use Rattle.tf_states.specs.declared.state.AtomState.TheVariants as atom
use Rattle.tf_flow.specs.declared.deciders.Depth.{Depth}
use Rattle.tf_flow.specs.Outline.{Atom, Part, a_task, a_retry, is_task_part, is_retry_part}
use Rattle.tf_numbers.specs.Numbers.{first_below}
use Rattle.tf_numbers.proofs.OptionLemmas.{only_if}
use Rattle.tf_numbers.proofs.TruthLemmas.{and_first, and_false, true_second, not_true}
use Rattle.tf_model.specs.Plan.{Outline, count, is_task, is_retry}
use Rattle.tf_model.specs.History.{Snapshot, is_at_work, is_success}
use Rattle.tf_model.specs.Steps.{is_inner}
use Rattle.tf_model.specs.Readiness.{refused}
use Rattle.tf_model.specs.Retries.{attempt, ends_with}
use Rattle.tf_model.proofs.Told.{is_task_in, is_retry_in}
use Rattle.tf_model.specs.Forced.{forced, forced_if_running, is_active, is_to_put_back, put_back_or_run, is_to_ignore, ignore_by, ignore_or_self}
use Rattle.tf_facts.proofs.CaseLemmas.{forced_by}
use Rattle.tf_hands.specs.Hands.{is_over, is_no_end, is_of_flow, takes_task}

-- a retry controller is no task
pub no_task : (plan : Outline) (a : ℕ) → is_retry plan a ≡ true → is_task plan a ≡ false
no_task plan a is = by (slice_get plan.atoms a) is
  where
    part : (p : Part) → is_retry_part p ≡ true → is_task_part p ≡ false
    part (a_task t) is = absurd (cc)
    part (a_retry r) is = refl

    by : (o : Option Atom) → is_retry_in o ≡ true → is_task_in o ≡ false
    by None is = absurd (cc)
    by (Some x) is = part x.part is

-- PENDING and IGNORE: an atom that enters it isn't at work, and doesn't end
abbrev pub waits : AtomState → Bool
waits atom.Pending = true
waits atom.Ignore = true
waits state = false

-- what is recorded isn't of the flow, restarts nothing, and is of a task only where this enters PENDING or IGNORE
abbrev pub spares : Outline → What → Bool
spares plan (what.Atom a state held) = waits state || not (is_task plan a)
spares plan (what.Resolve named resolved) = true
spares plan (what.Flow state) = false
spares plan (what.Restart again) = false

-- ---- the eight cases

retry_spares : (plan : Outline) (r : ℕ) (state : AtomState) (held : Payload) → is_retry plan r ≡ true → spares plan (what.Atom r state held) ≡ true
retry_spares plan r state held is = true_second (waits state) (not (is_task plan r)) (ap not (no_task plan r is))

attempt_spares : (plan : Outline) (r : ℕ) (p : Payload) → is_retry plan r ≡ true → spares plan (ends_with r p) ≡ true
attempt_spares plan r (payload.Value v) is = retry_spares plan r atom.Success (payload.Value v) is
attempt_spares plan r (payload.Fault f) is = retry_spares plan r atom.Failure (payload.Fault f) is
attempt_spares plan r payload.Empty is = retry_spares plan r atom.Success payload.Empty is

again_spares : (plan : Outline) (r : ℕ) (o : Option ℕ) → is_retry plan r ≡ true → spares plan (put_back_or_run r o) ≡ true
again_spares plan r None is = retry_spares plan r atom.Running payload.Empty is
again_spares plan r (Some a) is = refl

ignored_spares : (plan : Outline) (v : ℕ) (o : Option ℕ) → spares plan (ignore_or_self v o) ≡ true
ignored_spares plan v None = refl
ignored_spares plan v (Some a) = refl

ignore_spares : (plan : Outline) (s : Snapshot) (v : ℕ) (o : Option Depth) → spares plan (ignore_by plan s v o) ≡ true
ignore_spares plan s v None = refl
ignore_spares plan s v (Some how) = ignored_spares plan v (first_below (count plan) (is_to_ignore plan s v how))

running_spares : (plan : Outline) (s : Snapshot) (w : What) → forced_if_running plan s ≡ Some w → spares plan w ≡ true
running_spares plan s = forced_by plan s (λ (w : What). spares plan w ≡ true) (record {
  attempt = λ r below test. attempt_spares plan r (attempt plan s r) (and_first (is_retry plan r) _ test);
  again = λ r below test. again_spares plan r (first_below (count plan) (is_to_put_back plan s r)) (and_first (is_retry plan r) _ test);
  reverted = λ r below test. retry_spares plan r atom.Reverted payload.Empty (and_first (is_retry plan r) _ test);
  resolution = λ none a below test. refl;
  retrying = λ r below test. retry_spares plan r atom.Retrying payload.Empty (and_first (is_retry plan r) _ (and_first (is_retry plan r && is_success (s.state r)) _ test));
  revert = λ r below test. retry_spares plan r atom.Reverting payload.Empty (and_first (is_retry plan r) _ test);
  ignore = λ none v below test. ignore_spares plan s v (refused plan s v);
  run = λ none r below test. retry_spares plan r atom.Running payload.Empty (and_first (is_retry plan r) _ test);
})

pub forced_spares : (plan : Outline) (s : Snapshot) (w : What) → forced plan s ≡ Some w → spares plan w ≡ true
unfolding forced
forced_spares plan s w is = running_spares plan s w (only_if (is_active plan s) (forced_if_running plan s) w is).1

-- ---- what spares tasks

over_spares : (plan : Outline) (a : ℕ) (state : AtomState) → waits state || not (is_task plan a) ≡ true → not (is_over state && is_task plan a) ≡ true
over_spares plan a atom.Success is = is
over_spares plan a atom.Failure is = is
over_spares plan a atom.Reverted is = is
over_spares plan a atom.RevertFailure is = is
over_spares plan a state is = refl

pub spares_end : (plan : Outline) (w : What) → spares plan w ≡ true → is_no_end plan w ≡ true
spares_end plan (what.Atom a state held) is = over_spares plan a state is
spares_end plan (what.Resolve named resolved) is = refl
spares_end plan (what.Flow state) is = refl
spares_end plan (what.Restart again) is = refl

-- nothing is taken up where the test is false
not_taken : (b : Bool) (a : ℕ) → b ≡ false → (if b then Some a else None) ≡ None
not_taken b a is = rw is refl

pub idle_taken : (plan : Outline) (a : ℕ) (state : AtomState) (held : Payload) → is_at_work state ≡ false → takes_task plan (what.Atom a state held) ≡ None
idle_taken plan a state held idle = rw (idle, and_false (is_task plan a)) refl

taken_spares : (plan : Outline) (a : ℕ) (state : AtomState) (held : Payload) → waits state || not (is_task plan a) ≡ true → takes_task plan (what.Atom a state held) ≡ None
taken_spares plan a atom.Running held is = rw (not_true (is_task plan a) is) refl
taken_spares plan a atom.Reverting held is = rw (not_true (is_task plan a) is) refl
taken_spares plan a state held is = idle_taken plan a state held refl

pub spares_taken : (plan : Outline) (w : What) → spares plan w ≡ true → takes_task plan w ≡ None
spares_taken plan (what.Atom a state held) is = taken_spares plan a state held is
spares_taken plan (what.Resolve named resolved) is = refl
spares_taken plan (what.Flow state) is = refl
spares_taken plan (what.Restart again) is = absurd (cc)

spares_flow : (plan : Outline) (w : What) → spares plan w ≡ true → is_of_flow w ≡ false
spares_flow plan (what.Atom a state held) is = refl
spares_flow plan (what.Resolve named resolved) is = refl
spares_flow plan (what.Flow state) is = absurd (cc)
spares_flow plan (what.Restart again) is = refl

-- what isn't of the flow is inner
pub within_inner : (w : What) → is_of_flow w ≡ false → is_inner w ≡ true
within_inner (what.Flow state) is = absurd (cc)
within_inner (what.Atom a state held) is = refl
within_inner (what.Resolve named resolved) is = refl
within_inner (what.Restart again) is = refl

-- ---- what is forced

pub forced_no_end : (plan : Outline) (s : Snapshot) (w : What) → forced plan s ≡ Some w → is_no_end plan w ≡ true
forced_no_end plan s w is = spares_end plan w (forced_spares plan s w is)

pub forced_takes_none : (plan : Outline) (s : Snapshot) (w : What) → forced plan s ≡ Some w → takes_task plan w ≡ None
forced_takes_none plan s w is = spares_taken plan w (forced_spares plan s w is)

pub forced_within : (plan : Outline) (s : Snapshot) (w : What) → forced plan s ≡ Some w → is_of_flow w ≡ false
forced_within plan s w is = spares_flow plan w (forced_spares plan s w is)

pub forced_inner : (plan : Outline) (s : Snapshot) (w : What) → forced plan s ≡ Some w → is_inner w ≡ true
forced_inner plan s w is = within_inner w (forced_within plan s w is)
