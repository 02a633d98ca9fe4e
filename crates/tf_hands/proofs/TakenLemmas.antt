-- What is chosen takes up a candidate.
use Rattle.std.proofs.Common.{◌≡◌, ℕ, ◌<◌, true, false, ◌&&◌, Option, Some, None, refl, sym, ap, ◌∙◌, inl, inr}
use Rattle.std.specs.Prelude.{is_none, option_map}
use Rattle.tf_states.specs.declared.record.What.{What}
use Rattle.tf_states.specs.declared.record.What.TheVariants as what
use Rattle.tf_states.specs.declared.state.AtomState.{AtomState}
use Rattle.tf_states.specs.declared.state.AtomState.TheVariants as atom
use Rattle.tf_numbers.specs.Numbers.{first_below}
use Rattle.tf_numbers.proofs.BelowLemmas.{found_passes, found_below}
use Rattle.tf_numbers.proofs.OptionLemmas.{only_if}
use Rattle.tf_numbers.proofs.TruthLemmas.{and_first, and_second, or_either, clash}
use Rattle.tf_model.specs.Plan.{Outline, count, is_task}
use Rattle.tf_model.specs.History.{Snapshot, is_at_work, is_pending, is_executed}
use Rattle.tf_model.specs.Readiness.{can_run, can_revert}
use Rattle.tf_model.specs.Forced.{forced, is_active, is_candidate, is_interrupted, is_best, taken_up, candidate_entry, candidate_if_running, choice}
use Rattle.tf_model.proofs.StepLemmas.{run_pending, revert_executed}
use Rattle.tf_hands.proofs.FitLemmas.{candidate_task}
use Rattle.tf_hands.specs.Hands.{takes_task}

-- a candidate that is taken up
pub record Taken (plan : Outline) (s : Snapshot) (w : What) : Type 0 where
  pub number : ℕ
  pub below : number < count plan
  pub candidate : is_candidate plan s number ≡ true
  pub how : taken_up (s.state number) number ≡ w

taken_by : (plan : Outline) (s : Snapshot) (w : What) (o : Option ℕ) → first_below (count plan) (is_best plan s) ≡ o → option_map (candidate_entry s) o ≡ Some w → Taken plan s w
taken_by plan s w None found is = absurd (cc)
taken_by plan s w (Some a) found is = record {
  number = a;
  below = found_below (count plan) (is_best plan s) a found;
  candidate = and_first (is_candidate plan s a) _ (found_passes (count plan) (is_best plan s) a found);
  how = let same : candidate_entry s a ≡ w = cc in same;
}

pub taken_of : (plan : Outline) (s : Snapshot) (w : What) → choice plan s ≡ Some w → Taken plan s w
unfolding choice candidate_if_running
taken_of plan s w is =
    let parts = only_if (is_active plan s && is_none (forced plan s)) (candidate_if_running plan s) w is in
    taken_by plan s w (first_below (count plan) (is_best plan s)) refl parts.1

-- ---- the entry with which a task is taken up

-- a task that is taken up in this state works
pub taken_takes : (plan : Outline) (x : AtomState) (a : ℕ) → is_task plan a ≡ true → takes_task plan (taken_up x a) ≡ Some a
taken_takes plan atom.Running a task = refl
taken_takes plan atom.Reverting a task = refl
taken_takes plan atom.Pending a task = rw task refl
taken_takes plan atom.Success a task = rw task refl
taken_takes plan atom.Failure a task = rw task refl
taken_takes plan atom.Reverted a task = rw task refl
taken_takes plan atom.RevertFailure a task = rw task refl
taken_takes plan atom.Ignore a task = rw task refl
taken_takes plan atom.Retrying a task = rw task refl

-- the task that a candidate's entry takes up is the candidate
pub taken_number : (plan : Outline) (s : Snapshot) (w : What) (a : ℕ) (taken : Taken plan s w) → takes_task plan w ≡ Some a → taken.number ≡ a
taken_number plan s w a taken takes =
    let first : takes_task plan w ≡ Some taken.number
    = ap (takes_task plan) (sym taken.how) ∙ taken_takes plan (s.state taken.number) taken.number (candidate_task plan s taken.number taken.candidate) in
    let same : Some taken.number ≡ Some a = sym first ∙ takes in
    cc

-- a restart is of a task at work
pub restarts_work : (x : AtomState) (n a : ℕ) → taken_up x n ≡ what.Restart a → is_at_work x ≡ true
restarts_work atom.Running n a is = refl
restarts_work atom.Reverting n a is = refl
restarts_work atom.Pending n a is = absurd (cc)
restarts_work atom.Success n a is = absurd (cc)
restarts_work atom.Failure n a is = absurd (cc)
restarts_work atom.Reverted n a is = absurd (cc)
restarts_work atom.RevertFailure n a is = absurd (cc)
restarts_work atom.Ignore n a is = absurd (cc)
restarts_work atom.Retrying n a is = absurd (cc)

-- ---- a candidate at work is in nobody's hand

pending_idle : (x : AtomState) → is_pending x ≡ true → is_at_work x ≡ false
pending_idle atom.Pending is = refl
pending_idle x is = absurd (cc)

executed_idle : (x : AtomState) → is_executed x ≡ true → is_at_work x ≡ false
executed_idle atom.Success is = refl
executed_idle atom.Failure is = refl
executed_idle x is = absurd (cc)

pub working_candidate : (plan : Outline) (s : Snapshot) (a : ℕ) → is_candidate plan s a ≡ true → is_at_work (s.state a) ≡ true → is_none (s.hand a) ≡ true
working_candidate plan s a is works = elim (or_either (is_interrupted plan s a) _ is) [
  | inl stopped ↦ and_second (is_at_work (s.state a)) _ (and_second (is_task plan a) _ stopped)
  | inr ready ↦ elim (or_either (can_run plan s a) (can_revert plan s a) (and_second (is_task plan a) _ ready)) [
    | inl runs ↦ absurd (clash (is_at_work (s.state a)) works (pending_idle (s.state a) (run_pending plan s a runs)))
    | inr reverts ↦ absurd (clash (is_at_work (s.state a)) works (executed_idle (s.state a) (revert_executed plan s a reverts)))
  ]
]
