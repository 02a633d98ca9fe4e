-- The eight cases of a forced entry, each where the earlier ones don't apply.
use Rattle.std.proofs.Common.{◌≡◌, ℕ, ◌<◌, Bool, true, false, Option, Some, None, refl, subst}
use Rattle.std.specs.Option.{option_or, option_map}
use Rattle.tf_states.specs.declared.record.What.{What}
use Rattle.tf_numbers.specs.Numbers.{first_below}
use Rattle.tf_model.specs.Plan.{Outline, count}
use Rattle.tf_model.specs.History.{Snapshot}
use Rattle.tf_model.specs.Forced.{first_entry, forced_attempt, forced_again, forced_reverted, forced_resolution, forced_retrying, forced_revert, forced_ignore, forced_run, forced_if_running, is_attempting, attempt_entry, is_beginning_again, again_entry, is_undone_retry, reverted_entry, is_unresolved, resolution_entry, is_to_begin_again, retrying_entry, is_retry_to_revert, reverting_entry, is_refused, ignore_entry, is_retry_to_run, running_entry}
use Rattle.tf_numbers.proofs.BelowLemmas.{found_passes, found_below, none_at}

-- what is recorded has a property, where the entry of each atom that passes the test has it
pub by_first : (plan : Outline) (P : What → Type 0) (test : ℕ → Bool) (entry : ℕ → What) (w : What) → first_entry plan test entry ≡ Some w
    → ((a : ℕ) → a < count plan → test a ≡ true → P (entry a)) → P w
by_first plan P test entry w is each = of (first_below (count plan) test) refl is
  where
    of : (o : Option ℕ) → first_below (count plan) test ≡ o → option_map entry o ≡ Some w → P w
    of None found gives = absurd (cc)
    of (Some a) found gives =
        let same : entry a ≡ w = cc in
        subst P same (each a (found_below (count plan) test a found) (found_passes (count plan) test a found))

-- the test passes at no atom
abbrev pub NoneIs : Outline → (ℕ → Bool) → Type 0
NoneIs plan test = (a : ℕ) → a < count plan → test a ≡ false

none_first : (plan : Outline) (test : ℕ → Bool) (entry : ℕ → What) → first_entry plan test entry ≡ None → NoneIs plan test
none_first plan test entry is a below = of (first_below (count plan) test) refl is
  where
    of : (o : Option ℕ) → first_below (count plan) test ≡ o → option_map entry o ≡ None → test a ≡ false
    of None found gives = none_at (count plan) test a found below
    of (Some b) found gives = absurd (cc)

-- the entries of all cases have a property
pub record EachCase (plan : Outline) (s : Snapshot) (P : What → Type 0) : Type 0 where
  pub attempt : (a : ℕ) → a < count plan → is_attempting plan s a ≡ true → P (attempt_entry plan s a)
  pub again : (a : ℕ) → a < count plan → is_beginning_again plan s a ≡ true → P (again_entry plan s a)
  pub reverted : (a : ℕ) → a < count plan → is_undone_retry plan s a ≡ true → P (reverted_entry a)
  pub resolution : NoneIs plan (is_attempting plan s) → (a : ℕ) → a < count plan → is_unresolved s a ≡ true → P (resolution_entry plan s a)
  pub retrying : (a : ℕ) → a < count plan → is_to_begin_again plan s a ≡ true → P (retrying_entry a)
  pub revert : (a : ℕ) → a < count plan → is_retry_to_revert plan s a ≡ true → P (reverting_entry a)
  pub ignore : NoneIs plan (is_beginning_again plan s) → (a : ℕ) → a < count plan → is_refused plan s a ≡ true → P (ignore_entry plan s a)
  pub run : NoneIs plan (is_beginning_again plan s) → (a : ℕ) → a < count plan → is_retry_to_run plan s a ≡ true → P (running_entry a)

-- the first of two cases applies, or the second where the first doesn't
by_cases : (P : What → Type 0) (w : What) (x y : Option What) → (x ≡ Some w → P w) → (x ≡ None → y ≡ Some w → P w) → option_or x y ≡ Some w → P w
by_cases P w None y first second is = second refl is
by_cases P w (Some v) y first second is = first is

pub forced_by : (plan : Outline) (s : Snapshot) (P : What → Type 0) → EachCase plan s P → (w : What) → forced_if_running plan s ≡ Some w → P w
unfolding forced_if_running forced_attempt forced_again forced_reverted forced_resolution forced_retrying forced_revert forced_ignore forced_run
forced_by plan s P each w =
    by_cases P w (first_entry plan (is_attempting plan s) (attempt_entry plan s)) _ (λ is. by_first plan P (is_attempting plan s) (attempt_entry plan s) w is each.attempt)
    (λ none_attempts. let attempting = none_first plan (is_attempting plan s) (attempt_entry plan s) none_attempts in
    by_cases P w (first_entry plan (is_beginning_again plan s) (again_entry plan s)) _ (λ is. by_first plan P (is_beginning_again plan s) (again_entry plan s) w is each.again)
    (λ none_begin. let beginning = none_first plan (is_beginning_again plan s) (again_entry plan s) none_begin in
    by_cases P w (first_entry plan (is_undone_retry plan s) reverted_entry) _ (λ is. by_first plan P (is_undone_retry plan s) reverted_entry w is each.reverted)
    (λ third. by_cases P w (first_entry plan (is_unresolved s) (resolution_entry plan s)) _ (λ is. by_first plan P (is_unresolved s) (resolution_entry plan s) w is (each.resolution attempting))
    (λ fourth. by_cases P w (first_entry plan (is_to_begin_again plan s) retrying_entry) _ (λ is. by_first plan P (is_to_begin_again plan s) retrying_entry w is each.retrying)
    (λ fifth. by_cases P w (first_entry plan (is_retry_to_revert plan s) reverting_entry) _ (λ is. by_first plan P (is_retry_to_revert plan s) reverting_entry w is each.revert)
    (λ sixth. by_cases P w (first_entry plan (is_refused plan s) (ignore_entry plan s)) (first_entry plan (is_retry_to_run plan s) running_entry)
    (λ is. by_first plan P (is_refused plan s) (ignore_entry plan s) w is (each.ignore beginning))
    (λ seventh is. by_first plan P (is_retry_to_run plan s) running_entry w is (each.run beginning))))))))

both_none : (x y : Option What) → option_or x y ≡ None → (x ≡ None) × (y ≡ None)
both_none None y is = (refl, is)
both_none (Some v) y is = absurd (cc)

-- where nothing is forced, no retry controller begins again
pub none_begins : (plan : Outline) (s : Snapshot) → forced_if_running plan s ≡ None → NoneIs plan (is_beginning_again plan s)
unfolding forced_if_running forced_attempt forced_again
none_begins plan s is =
    none_first plan (is_beginning_again plan s) (again_entry plan s) (both_none (first_entry plan (is_beginning_again plan s) (again_entry plan s)) _ (both_none (first_entry plan (is_attempting plan s) (attempt_entry plan s)) _ is).1).0
