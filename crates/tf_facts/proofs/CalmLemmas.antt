-- A run in which nothing can be done any more has an end.
use Rattle.std.proofs.Common.{◌≡◌, ℕ, ℤ, pos, negsuc, ◌<◌, Bool, true, false, not, ◌&&◌, Option, Some, None, refl, ap, ◌⊎◌, inl, inr, arith}
use Rattle.std.specs.Option.{option_or, option_map}
use Rattle.std.specs.Prelude.{is_none, int_lt}
use Rattle.std.proofs.lemmas.Bool.{ltb-true, lt-ltb, le-ltb}
use Rattle.tf_states.specs.declared.record.What.{What}
use Rattle.tf_states.specs.declared.state.AtomState.{AtomState}
use Rattle.tf_states.specs.declared.state.AtomState.TheVariants as atom
use Rattle.tf_numbers.specs.Numbers.{any_below, first_below}
use Rattle.tf_model.specs.Plan.{Outline, count, holds, is_before, is_retry, is_task}
use Rattle.tf_model.specs.History.{Snapshot, is_at_work, is_running, is_failure, is_reverting, is_revert_failure, is_retrying, is_executed, is_settled}
use Rattle.tf_model.specs.Readiness.{can_run, can_revert, is_unmarked, lets_revert}
use Rattle.tf_model.specs.Forced.{first_entry, forced_attempt, forced_again, forced_reverted, forced_resolution, forced_retrying, forced_revert, forced_ignore, forced_run, forced_if_running, is_attempting, attempt_entry, is_beginning_again, again_entry, is_undone_retry, reverted_entry, is_unresolved, resolution_entry, is_to_begin_again, retrying_entry, is_retry_to_revert, reverting_entry, is_refused, ignore_entry, is_retry_to_run, running_entry, priority, outranks, candidate_if_running, candidate_entry, is_best, is_candidate, is_interrupted}
use Rattle.tf_numbers.proofs.TruthLemmas.{and_first, and_second, true_first, true_second, true_both, clash, either_way, not_true, or_of_not}
use Rattle.tf_model.proofs.BeforeLemmas.{never_before_itself, before_chain}
use Rattle.tf_facts.proofs.LayoutLemmas.{IsLaidOut, task_or_retry}
use Rattle.tf_numbers.proofs.BelowLemmas.{all_of, any_at, none_at, Last, none_or_last}
use Rattle.tf_facts.proofs.CoreLemmas.{Core, marked_where, after_region}
use Rattle.tf_numbers.proofs.OptionLemmas.{none_mapped}

-- ---- nothing is forced

both_none : (x y : Option What) → option_or x y ≡ None → (x ≡ None) × (y ≡ None)
both_none None y is = (refl, is)
both_none (Some v) y is = absurd (cc)

none_first : (plan : Outline) (test : ℕ → Bool) (entry : ℕ → What) → first_entry plan test entry ≡ None → (a : ℕ) → a < count plan → test a ≡ false
none_first plan test entry is a below = of (first_below (count plan) test) refl is
  where
    of : (o : Option ℕ) → first_below (count plan) test ≡ o → option_map entry o ≡ None → test a ≡ false
    of None found gives = none_at (count plan) test a found below
    of (Some b) found gives = absurd (cc)

-- no case of a forced entry applies to an atom
pub record Unforced (plan : Outline) (s : Snapshot) : Type 0 where
  pub attempt : (a : ℕ) → a < count plan → is_attempting plan s a ≡ false
  pub again : (a : ℕ) → a < count plan → is_beginning_again plan s a ≡ false
  pub reverted : (a : ℕ) → a < count plan → is_undone_retry plan s a ≡ false
  pub resolution : (a : ℕ) → a < count plan → is_unresolved s a ≡ false
  pub revert : (a : ℕ) → a < count plan → is_retry_to_revert plan s a ≡ false
  pub run : (a : ℕ) → a < count plan → is_retry_to_run plan s a ≡ false

pub unforced : (plan : Outline) (s : Snapshot) → forced_if_running plan s ≡ None → Unforced plan s
unfolding forced_if_running forced_attempt forced_again forced_reverted forced_resolution forced_retrying forced_revert forced_ignore forced_run
unforced plan s is =
    let one = both_none (first_entry plan (is_attempting plan s) (attempt_entry plan s)) _ is in
    let two = both_none (first_entry plan (is_beginning_again plan s) (again_entry plan s)) _ one.1 in
    let three = both_none (first_entry plan (is_undone_retry plan s) reverted_entry) _ two.1 in
    let four = both_none (first_entry plan (is_unresolved s) (resolution_entry plan s)) _ three.1 in
    let five = both_none (first_entry plan (is_to_begin_again plan s) retrying_entry) _ four.1 in
    let six = both_none (first_entry plan (is_retry_to_revert plan s) reverting_entry) _ five.1 in
    let seven = both_none (first_entry plan (is_refused plan s) (ignore_entry plan s)) _ six.1 in
    record {
      attempt = none_first plan (is_attempting plan s) (attempt_entry plan s) one.0;
      again = none_first plan (is_beginning_again plan s) (again_entry plan s) two.0;
      reverted = none_first plan (is_undone_retry plan s) reverted_entry three.0;
      resolution = none_first plan (is_unresolved s) (resolution_entry plan s) four.0;
      revert = none_first plan (is_retry_to_revert plan s) reverting_entry six.0;
      run = none_first plan (is_retry_to_run plan s) running_entry seven.1;
    }

-- ---- no task is a candidate

below_chain : (x y z : ℤ) → int_lt x y ≡ true → int_lt y z ≡ true → int_lt x z ≡ true
below_chain (pos a) (pos b) (pos c) first second = lt-ltb a c (omega (arith, ltb-true a b first, ltb-true b c second))
below_chain (pos a) (pos b) (negsuc c) first second = absurd (cc)
below_chain (pos a) (negsuc b) z first second = absurd (cc)
below_chain (negsuc a) (pos b) (pos c) first second = refl
below_chain (negsuc a) (pos b) (negsuc c) first second = absurd (cc)
below_chain (negsuc a) (negsuc b) (pos c) first second = refl
below_chain (negsuc a) (negsuc b) (negsuc c) first second = lt-ltb c a (omega (arith, ltb-true b a first, ltb-true c b second))

never_below_itself : (x : ℤ) → int_lt x x ≡ false
never_below_itself (pos a) = le-ltb a a (omega arith)
never_below_itself (negsuc a) = le-ltb a a (omega arith)

-- a has a smaller priority than b
abbrev is_outranked : Outline → ℕ → ℕ → Bool
is_outranked plan a b = int_lt (priority plan a) (priority plan b)

best_passes : (plan : Outline) (s : Snapshot) (best : Last (count plan) (is_outranked plan) (is_candidate plan s)) → is_best plan s best.number ≡ true
best_passes plan s best = true_both (is_candidate plan s best.number) _ best.passes (elim (either_way (any_below (count plan) (outranks plan s best.number))) [
  | inr none ↦ ap not none
  | inl some_one ↦
      let found = any_at (count plan) (outranks plan s best.number) some_one in
      absurd (clash (is_outranked plan best.number found.number) (and_second (is_candidate plan s found.number) _ found.passes)
      (best.last found.number found.below (and_first (is_candidate plan s found.number) _ found.passes)))
])

pub no_candidate : (plan : Outline) (s : Snapshot) → candidate_if_running plan s ≡ None → (a : ℕ) → a < count plan → is_candidate plan s a ≡ false
unfolding candidate_if_running
no_candidate plan s is a below =
    elim (none_or_last (count plan) (is_outranked plan) (is_candidate plan s) (λ x y z. below_chain (priority plan x) (priority plan y) (priority plan z)) (λ x. never_below_itself (priority plan x))) [
      | inl none ↦ none a below
      | inr best ↦ absurd (clash (is_best plan s best.number) (best_passes plan s best)
          (none_at (count plan) (is_best plan s) best.number (none_mapped (candidate_entry s) (first_below (count plan) (is_best plan s)) is) best.below))
    ]

-- ---- nothing is at work, and what is marked is settled

at_work : (x : AtomState) → is_at_work x ≡ true → (is_running x ≡ true) ⊎ (is_reverting x ≡ true)
at_work atom.Running is = inl refl
at_work atom.Reverting is = inr refl
at_work x is = absurd (cc)

-- nothing can be done
pub record NothingLeft (plan : Outline) (s : Snapshot) : Type 0 where
  pub unforced : Unforced plan s
  pub candidates : (a : ℕ) → a < count plan → is_candidate plan s a ≡ false
  pub still : (a : ℕ) → a < count plan → is_none (s.hand a) ≡ true
  pub unhurt : (a : ℕ) → a < count plan → is_revert_failure (s.state a) ≡ false

pub none_at_work : (plan : Outline) (s : Snapshot) → NothingLeft plan s → (a : ℕ) → a < count plan → is_at_work (s.state a) ≡ false
none_at_work plan s nothing a below = elim (either_way (is_at_work (s.state a))) [
  | inr isnt ↦ isnt
  | inl works ↦ elim (task_or_retry plan a below) [
    | inl task ↦ absurd (clash (is_candidate plan s a)
        (true_first (is_interrupted plan s a) _ (true_both (is_task plan a) _ task (true_both (is_at_work (s.state a)) _ works (nothing.still a below))))
        (nothing.candidates a below))
    | inr retry ↦ elim (at_work (s.state a) works) [
      | inl running ↦ absurd (clash (is_attempting plan s a) (true_both (is_retry plan a) _ retry running) (nothing.unforced.attempt a below))
      | inr reverting ↦ absurd (clash (is_undone_retry plan s a) (true_both (is_retry plan a) _ retry reverting) (nothing.unforced.reverted a below))
    ]
  ]
]

pub none_retrying : (plan : Outline) (s : Snapshot) → Core plan s → NothingLeft plan s → (a : ℕ) → a < count plan → is_retrying (s.state a) ≡ false
none_retrying plan s core nothing a below = elim (either_way (is_retrying (s.state a))) [
  | inr isnt ↦ isnt
  | inl retrying ↦ absurd (clash (is_beginning_again plan s a) (true_both (is_retry plan a) _ (core.controllers a retrying) retrying) (nothing.unforced.again a below))
]

settled_else : (x : AtomState) → is_executed x ≡ false → is_at_work x ≡ false → is_retrying x ≡ false → is_revert_failure x ≡ false → is_settled x ≡ true
settled_else atom.Pending executed works retrying hurt = refl
settled_else atom.Reverted executed works retrying hurt = refl
settled_else atom.Ignore executed works retrying hurt = refl
settled_else x executed works retrying hurt = absurd (cc)

-- what is marked and executed
abbrev is_to_undo : Snapshot → ℕ → Bool
is_to_undo s a = is_executed (s.state a) && not (is_unmarked s a)

settles_after : (plan : Outline) (s : Snapshot) → IsLaidOut plan → Core plan s → NothingLeft plan s → (m : Last (count plan) (is_before plan) (is_to_undo s))
    → (x : ℕ) → x < count plan → is_before plan m.number x ≡ true → is_settled (s.state x) ≡ true
settles_after plan s layout core nothing m x below before =
    let mark = marked_where s m.number (not_true (is_unmarked s m.number) (and_second (is_executed (s.state m.number)) _ m.passes)) in
    let whole = core.whole m.number mark.resolve mark.is in
    elim (either_way (holds plan mark.resolve.flow x)) [
      | inr outside ↦ after_region plan s layout core m.number mark.resolve mark.is m.number x whole.0 outside before
      | inl inside ↦ elim (either_way (is_executed (s.state x))) [
        | inl executed ↦ absurd (clash (is_before plan m.number x) before
            (m.last x below (true_both (is_executed (s.state x)) _ executed (ap not (ap is_none (whole.1 x inside))))))
        | inr isnt ↦ settled_else (s.state x) isnt (none_at_work plan s nothing x below) (none_retrying plan s core nothing x below) (nothing.unhurt x below)
      ]
    ]

no_last_to_undo : (plan : Outline) (s : Snapshot) → IsLaidOut plan → Core plan s → NothingLeft plan s → Last (count plan) (is_before plan) (is_to_undo s) → ⊥
unfolding can_revert
no_last_to_undo plan s layout core nothing m =
    let can : can_revert plan s m.number ≡ true = true_both (is_to_undo s m.number) _ m.passes (all_of (count plan) (lets_revert plan s m.number)
    (λ x below. or_of_not (is_before plan m.number x) (is_settled (s.state x)) (settles_after plan s layout core nothing m x below))) in
    elim (task_or_retry plan m.number m.below) [
      | inl task ↦ clash (is_candidate plan s m.number)
          (true_second (is_interrupted plan s m.number) _ (true_both (is_task plan m.number) _ task (true_second (can_run plan s m.number) _ can)))
          (nothing.candidates m.number m.below)
      | inr retry ↦ clash (is_retry_to_revert plan s m.number) (true_both (is_retry plan m.number) _ retry can) (nothing.unforced.revert m.number m.below)
    ]

none_to_undo : (plan : Outline) (s : Snapshot) → IsLaidOut plan → Core plan s → NothingLeft plan s → (a : ℕ) → a < count plan → is_to_undo s a ≡ false
none_to_undo plan s layout core nothing a below = elim (none_or_last (count plan) (is_before plan) (is_to_undo s) (before_chain plan layout.ordered) (never_before_itself plan)) [
  | inl none ↦ none a below
  | inr m ↦ absurd (no_last_to_undo plan s layout core nothing m)
]

-- what is marked isn't executed
pub none_executed : (plan : Outline) (s : Snapshot) → IsLaidOut plan → Core plan s → NothingLeft plan s → (a : ℕ) → a < count plan → is_none (s.mark a) ≡ false → is_executed (s.state a) ≡ false
none_executed plan s layout core nothing a below marked = elim (either_way (is_executed (s.state a))) [
  | inr isnt ↦ isnt
  | inl executed ↦ absurd (clash (is_to_undo s a) (true_both (is_executed (s.state a)) _ executed (ap not marked)) (none_to_undo plan s layout core nothing a below))
]

-- nothing has failed
pub none_failed : (plan : Outline) (s : Snapshot) → IsLaidOut plan → Core plan s → NothingLeft plan s → (a : ℕ) → a < count plan → is_failure (s.state a) ≡ false
none_failed plan s layout core nothing a below = elim (either_way (is_failure (s.state a))) [
  | inr isnt ↦ isnt
  | inl failed ↦ elim (either_way (is_none (s.mark a))) [
    | inl unmarked ↦ absurd (clash (is_unresolved s a) (true_both (is_failure (s.state a)) _ failed unmarked) (nothing.unforced.resolution a below))
    | inr marked ↦ absurd (clash (is_executed (s.state a)) (failure_executed (s.state a) failed) (none_executed plan s layout core nothing a below marked))
  ]
]
  where
    failure_executed : (x : AtomState) → is_failure x ≡ true → is_executed x ≡ true
    failure_executed atom.Failure is = refl
    failure_executed x is = absurd (cc)

-- what is marked is settled
pub marked_settled : (plan : Outline) (s : Snapshot) → IsLaidOut plan → Core plan s → NothingLeft plan s → (a : ℕ) → a < count plan → is_none (s.mark a) ≡ false → is_settled (s.state a) ≡ true
marked_settled plan s layout core nothing a below marked =
    settled_else (s.state a) (none_executed plan s layout core nothing a below marked) (none_at_work plan s nothing a below) (none_retrying plan s core nothing a below) (nothing.unhurt a below)
