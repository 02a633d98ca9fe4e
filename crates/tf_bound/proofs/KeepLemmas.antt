-- What an entry asks for keeps the attempts counted, and what is marked or in flight within the plan.
use Rattle.std.proofs.Common.{◌≡◌, ℕ, zero, suc, ◌<◌, ◌≤◌, List, [], ◌∷◌, length, Bool, true, false, ◌&&◌, Option, Some, None, refl, sym, ap, ◌∙◌, ◌⊎◌, inl, inr, subst, eqb-true, arith, slice_get}
use Rattle.std.specs.Prelude.{if◌then◌else◌, nat_eq}
use Rattle.tf_states.specs.declared.record.Kind.{Kind}
use Rattle.tf_states.specs.declared.record.Payload.{Payload}
use Rattle.tf_states.specs.declared.record.What.{What}
use Rattle.tf_states.specs.declared.record.What.TheVariants as what
use Rattle.tf_states.specs.declared.state.AtomState.{AtomState}
use Rattle.tf_states.specs.declared.state.AtomState.TheVariants as atom
use Rattle.tf_states.specs.declared.state.FlowState.{FlowState}
use Rattle.tf_states.specs.declared.state.FlowState.TheVariants as flow
use Rattle.tf_flow.specs.Outline.{Atom}
use Rattle.tf_numbers.specs.Numbers.{is_number}
use Rattle.tf_model.specs.Plan.{Outline, count, holds, is_retry, is_task, own_flow}
use Rattle.tf_model.proofs.Told.{is_task_in}
use Rattle.tf_model.specs.History.{Resolve, Snapshot, later, mark_after, hand_after, attempts_in, begun_again, is_again, is_retry_of, is_at_work, is_running, is_success, is_retrying}
use Rattle.tf_model.specs.Forced.{is_marked_again}
use Rattle.tf_numbers.proofs.TruthLemmas.{and_first, and_second, clash}
use Rattle.tf_numbers.proofs.NumberLemmas.{same_or_other}
use Rattle.tf_facts.proofs.MoveLemmas.{after}
use Rattle.tf_numbers.proofs.OptionLemmas.{is_this_number}
use Rattle.tf_bound.specs.Costs.{tries_at}
use Rattle.tf_bound.specs.Kept.{HasTriesLeft, MayTryAgain, IsCounted, IsMarkedWithin}
use Rattle.tf_bound.proofs.OwedLemmas.{SameAt, Moves, moves}
use Rattle.tf_bound.proofs.CountLemmas.{BeginsAgain, StateAsks, Asks}

-- ---- within the plan

either_mark : (b : Bool) (p : Resolve) (o : Option Resolve) (m : Resolve) → (if b then Some p else o) ≡ Some m → ((b ≡ true) × (p ≡ m)) ⊎ (o ≡ Some m)
either_mark true p o m is = let same : p ≡ m = cc in inl (refl, same)
either_mark false p o m is = inr is

begun_was : (own : Option ℕ) (o : Option Resolve) (m : Resolve) → begun_again own o ≡ Some m → o ≡ Some m
begun_was own None m is = is
begun_was own (Some n) m is = by (is_retry_of own n) is
  where
    by : (b : Bool) → (if b then None else Some n) ≡ Some m → Some n ≡ Some m
    by true gone = absurd (cc)
    by false stays = stays

-- a mark after an entry of an atom stood before it
mark_was : (plan : Outline) (a b : ℕ) (to : AtomState) (carried : Payload) (o : Option Resolve) (m : Resolve) → mark_after plan (what.Atom a to carried) b o ≡ Some m → o ≡ Some m
unfolding mark_after
mark_was plan a b atom.Running carried o m is = by (is_retry plan a) is
  where
    by : (c : Bool) → (if c then begun_again (own_flow plan a) o else o) ≡ Some m → o ≡ Some m
    by true began = begun_was (own_flow plan a) o m began
    by false stays = stays
mark_was plan a b atom.Pending carried o m is = is
mark_was plan a b atom.Success carried o m is = is
mark_was plan a b atom.Failure carried o m is = is
mark_was plan a b atom.Reverting carried o m is = is
mark_was plan a b atom.Reverted carried o m is = is
mark_was plan a b atom.RevertFailure carried o m is = is
mark_was plan a b atom.Ignore carried o m is = is
mark_was plan a b atom.Retrying carried o m is = is

-- a mark after an entry of the flow stood before it
flow_mark_was : (plan : Outline) (b : ℕ) (f : FlowState) (o : Option Resolve) (m : Resolve) → mark_after plan (what.Flow f) b o ≡ Some m → o ≡ Some m
unfolding mark_after
flow_mark_was plan b flow.Pending o m is = absurd (cc)
flow_mark_was plan b flow.Resuming o m is = is
flow_mark_was plan b flow.Running o m is = is
flow_mark_was plan b flow.Suspending o m is = is
flow_mark_was plan b flow.Suspended o m is = is
flow_mark_was plan b flow.Success o m is = is
flow_mark_was plan b flow.Failure o m is = is
flow_mark_was plan b flow.Reverted o m is = is

flow_hand_was : (plan : Outline) (hand b : ℕ) (f : FlowState) (o : Option ℕ) (h : ℕ) → hand_after plan hand (what.Flow f) b o ≡ Some h → o ≡ Some h
flow_hand_was plan hand b flow.Pending o h is = is
flow_hand_was plan hand b flow.Resuming o h is = absurd (cc)
flow_hand_was plan hand b flow.Running o h is = is
flow_hand_was plan hand b flow.Suspending o h is = is
flow_hand_was plan hand b flow.Suspended o h is = is
flow_hand_was plan hand b flow.Success o h is = is
flow_hand_was plan hand b flow.Failure o h is = is
flow_hand_was plan hand b flow.Reverted o h is = is

task_below : (xs : List Atom) (k : ℕ) → is_task_in (slice_get xs k) ≡ true → k < length xs
task_below [] k is = absurd (cc)
task_below (x ∷ xs) zero is = omega arith
task_below (x ∷ xs) (suc k) is = let below : k < length xs = task_below xs k is in omega (arith, below)

started_below : (plan : Outline) (hand a : ℕ) (same : Bool) (to : AtomState) (o : Option ℕ) (h : ℕ) → (o ≡ Some h → a < count plan) → (if same then (if is_task plan a && is_at_work to then Some hand else None) else o) ≡ Some h → a < count plan
started_below plan hand a false to o h before is = before is
started_below plan hand a true to o h before is = by (is_task plan a) refl is
  where
    by : (task : Bool) → is_task plan a ≡ task → (if task && is_at_work to then Some hand else None) ≡ Some h → a < count plan
    by true task started = task_below plan.atoms a task
    by false task started = absurd (cc)

restarted_below : (plan : Outline) (hand again a : ℕ) (same : Bool) (o : Option ℕ) (h : ℕ) → nat_eq again a ≡ same → again < count plan → (o ≡ Some h → a < count plan) → (if same then Some hand else o) ≡ Some h → a < count plan
restarted_below plan hand again a true o h number below before is = subst (λ (k : ℕ). k < count plan) (eqb-true again a number) below
restarted_below plan hand again a false o h number below before is = before is

pub within_kept : (plan : Outline) (s : Snapshot) (hand : ℕ) (w : What) → Asks plan s w → IsMarkedWithin plan s → IsMarkedWithin plan (after plan hand w s)
unfolding later mark_after
within_kept plan s hand (what.Atom a to carried) asks within = record {
  marked = λ b m is. within.marked b m (mark_was plan a b to carried (s.mark b) m is);
  flying = λ b h is. started_below plan hand b (nat_eq a b) to (s.hand b) h (within.flying b h) is;
}
within_kept plan s hand (what.Flow f) asks within = record {
  marked = λ b m is. within.marked b m (flow_mark_was plan b f (s.mark b) m is);
  flying = λ b h is. within.flying b h (flow_hand_was plan hand b f (s.hand b) h is);
}
within_kept plan s hand (what.Resolve named how) asks within = record {
  marked = λ b m is. elim (either_mark (holds plan named b) (record { flow = named; kind = how }) (s.mark b) m is) [
    | inl new ↦ ap (λ (p : Resolve). holds plan p.flow b) (sym new.1) ∙ new.0
    | inr old ↦ within.marked b m old
  ];
  flying = within.flying;
}
within_kept plan s hand (what.Restart again) asks within = record {
  marked = within.marked;
  flying = λ b h is. restarted_below plan hand again b (nat_eq again b) (s.hand b) h refl asks (within.flying b h) is;
}

-- ---- attempts

success_made : (to : AtomState) (made : ℕ) → is_success to ≡ true → 1 ≤ attempts_in to made
success_made atom.Success made is = omega arith
success_made to made is = absurd (cc)

retrying_asks : (plan : Outline) (s : Snapshot) (a : ℕ) (to : AtomState) (made : ℕ) → is_retrying to ≡ true → StateAsks plan s a to → BeginsAgain plan s a × (attempts_in to made ≡ made)
retrying_asks plan s a atom.Retrying made is asks = (asks, refl)
retrying_asks plan s a to made is asks = absurd (cc)

-- a mark of an own flow's resolve to run again stood before
marked_was : (own : Option ℕ) (now was : Option Resolve) → ((m : Resolve) → now ≡ Some m → was ≡ Some m) → is_marked_again own now ≡ true → is_marked_again own was ≡ true
marked_was own None was stood is = absurd (cc)
marked_was own (Some m) was stood is = ap (is_marked_again own) (stood m refl) ∙ is

never_begun : (own : Option ℕ) (o : Option Resolve) → is_marked_again own (begun_again own o) ≡ true → ⊥
never_begun own None is = cc
never_begun own (Some m) is = by (is_retry_of own m) refl is
  where
    by : (b : Bool) → is_retry_of own m ≡ b → is_marked_again own (if b then None else Some m) ≡ true → ⊥
    by true which gone = cc
    by false which stays = clash (is_retry_of own m) stays which

-- a retry controller that enters RUNNING isn't marked to run again
running_unmarked : (plan : Outline) (a : ℕ) (carried : Payload) (o : Option Resolve) → is_retry plan a ≡ true → is_marked_again (own_flow plan a) (mark_after plan (what.Atom a atom.Running carried) a o) ≡ true → ⊥
unfolding mark_after
running_unmarked plan a carried o retry is = by (is_retry plan a) retry is
  where
    by : (c : Bool) → c ≡ true → is_marked_again (own_flow plan a) (if c then begun_again (own_flow plan a) o else o) ≡ true → ⊥
    by true retry marked = never_begun (own_flow plan a) o marked
    by false retry marked = absurd (cc)

-- the retry controller of the entry itself, where it is marked to run again before and after
own_again : (plan : Outline) (s : Snapshot) (a : ℕ) (to : AtomState) (carried : Payload) → ((r : ℕ) → 1 ≤ tries_at plan r) → StateAsks plan s a to → is_retry plan a ≡ true
    → is_marked_again (own_flow plan a) (mark_after plan (what.Atom a to carried) a (s.mark a)) ≡ true → MayTryAgain plan s a → (attempts_in to (s.attempts a) < tries_at plan a) × (is_running to ≡ false)
own_again plan s a atom.Pending carried tried asks retry marked may = let some : 1 ≤ tries_at plan a = tried a in (omega (arith, some), refl)
own_again plan s a atom.Running carried tried asks retry marked may = absurd (running_unmarked plan a carried (s.mark a) retry marked)
own_again plan s a atom.Success carried tried asks retry marked may = absurd (clash (is_running (s.state a)) asks may.resting)
own_again plan s a atom.Failure carried tried asks retry marked may = (may.fewer, refl)
own_again plan s a atom.Reverting carried tried asks retry marked may = (may.fewer, refl)
own_again plan s a atom.Reverted carried tried asks retry marked may = (may.fewer, refl)
own_again plan s a atom.RevertFailure carried tried asks retry marked may = (may.fewer, refl)
own_again plan s a atom.Ignore carried tried asks retry marked may = (may.fewer, refl)
own_again plan s a atom.Retrying carried tried asks retry marked may = (may.fewer, refl)

-- nothing of an atom changed
same_tries : (plan : Outline) (s t : Snapshot) (r : ℕ) → SameAt s t r → HasTriesLeft plan s r → HasTriesLeft plan t r
same_tries plan s t r same tries = record {
  made = subst (λ (m : ℕ). 1 ≤ m) (sym same.attempts) tries.made;
  fewer = subst (λ (m : ℕ). m < tries_at plan r) (sym same.attempts) tries.fewer;
}

same_again : (plan : Outline) (s t : Snapshot) (r : ℕ) → SameAt s t r → MayTryAgain plan s r → MayTryAgain plan t r
same_again plan s t r same may = record {
  fewer = subst (λ (m : ℕ). m < tries_at plan r) (sym same.attempts) may.fewer;
  resting = ap is_running same.state ∙ may.resting;
}

-- an entry of an atom
moves_counted : (plan : Outline) (s t : Snapshot) (a : ℕ) (to : AtomState) (carried : Payload) → ((r : ℕ) → 1 ≤ tries_at plan r) → Moves plan s t a to
    → ((r : ℕ) → t.mark r ≡ mark_after plan (what.Atom a to carried) r (s.mark r)) → StateAsks plan s a to → IsCounted plan s → IsCounted plan t
moves_counted plan s t a to carried tried move marks asks counted = record {
  success = λ r is. elim (same_or_other r a) [
    | inl same ↦ subst (λ (m : ℕ). 1 ≤ m) (sym (ap t.attempts same ∙ move.attempts)) (success_made to (s.attempts a) (ap is_success (sym (ap t.state same ∙ move.state)) ∙ is))
    | inr other ↦ let stays = move.others r other in subst (λ (m : ℕ). 1 ≤ m) (sym stays.attempts) (counted.success r (ap is_success (sym stays.state) ∙ is))
  ];
  retrying = λ r is. elim (same_or_other r a) [
    | inl same ↦
        let begins = retrying_asks plan s a to (s.attempts a) (ap is_retrying (sym (ap t.state same ∙ move.state)) ∙ is) asks in
        let made : t.attempts a ≡ s.attempts a = move.attempts ∙ begins.1 in
        subst (HasTriesLeft plan t) (sym same) (record {
          made = subst (λ (m : ℕ). 1 ≤ m) (sym made) (counted.success a begins.0.success);
          fewer = subst (λ (m : ℕ). m < tries_at plan a) (sym made) (counted.again a begins.0.retry begins.0.marked).fewer;
        })
    | inr other ↦ let stays = move.others r other in same_tries plan s t r stays (counted.retrying r (ap is_retrying (sym stays.state) ∙ is))
  ];
  again = λ r retry marked.
      let after_it : is_marked_again (own_flow plan r) (mark_after plan (what.Atom a to carried) r (s.mark r)) ≡ true = ap (is_marked_again (own_flow plan r)) (sym (marks r)) ∙ marked in
      let before : MayTryAgain plan s r = counted.again r retry (marked_was (own_flow plan r) (mark_after plan (what.Atom a to carried) r (s.mark r)) (s.mark r) (λ m. mark_was plan a r to carried (s.mark r) m) after_it) in
      elim (same_or_other r a) [
        | inr other ↦ same_again plan s t r (move.others r other) before
        | inl same ↦
            let own = own_again plan s a to carried tried asks (ap (is_retry plan) (sym same) ∙ retry)
            (ap (λ (k : ℕ). is_marked_again (own_flow plan k) (mark_after plan (what.Atom a to carried) k (s.mark k))) (sym same) ∙ after_it) (subst (MayTryAgain plan s) same before) in
            subst (MayTryAgain plan t) (sym same) (record {
              fewer = subst (λ (m : ℕ). m < tries_at plan a) (sym move.attempts) own.0;
              resting = ap is_running move.state ∙ own.1;
            })
      ];
}

-- states and attempts stay, and each mark to run again stood before or comes where the retry controller may try again
still_counted : (plan : Outline) (s t : Snapshot) → ((r : ℕ) → t.state r ≡ s.state r) → ((r : ℕ) → t.attempts r ≡ s.attempts r)
    → ((r : ℕ) → is_retry plan r ≡ true → is_marked_again (own_flow plan r) (t.mark r) ≡ true → MayTryAgain plan s r) → IsCounted plan s → IsCounted plan t
still_counted plan s t states attempts marks counted = record {
  success = λ r is. subst (λ (m : ℕ). 1 ≤ m) (sym (attempts r)) (counted.success r (ap is_success (sym (states r)) ∙ is));
  retrying = λ r is. let tries = counted.retrying r (ap is_retrying (sym (states r)) ∙ is) in record {
    made = subst (λ (m : ℕ). 1 ≤ m) (sym (attempts r)) tries.made;
    fewer = subst (λ (m : ℕ). m < tries_at plan r) (sym (attempts r)) tries.fewer;
  };
  again = λ r retry marked. let may = marks r retry marked in record {
    fewer = subst (λ (m : ℕ). m < tries_at plan r) (sym (attempts r)) may.fewer;
    resting = ap is_running (states r) ∙ may.resting;
  };
}

resolved_again : (own : Option ℕ) (b : Bool) (named : ℕ) (how : Kind) (o : Option Resolve) → is_marked_again own (if b then Some (record { flow = named; kind = how }) else o) ≡ true
    → ((is_again how ≡ true) × (own ≡ Some named)) ⊎ (is_marked_again own o ≡ true)
resolved_again own true named how o is = inl (and_first (is_again how) (is_number own named) is, is_this_number own named (and_second (is_again how) (is_number own named) is))
resolved_again own false named how o is = inr is

pub counted_kept : (plan : Outline) (s : Snapshot) (hand : ℕ) (w : What) → ((r : ℕ) → 1 ≤ tries_at plan r) → Asks plan s w → IsCounted plan s → IsCounted plan (after plan hand w s)
unfolding later mark_after
counted_kept plan s hand (what.Atom a to carried) tried asks counted =
    moves_counted plan s (after plan hand (what.Atom a to carried) s) a to carried tried (moves plan s hand a to carried) (λ r. refl) asks counted
counted_kept plan s hand (what.Flow f) tried asks counted =
    still_counted plan s (after plan hand (what.Flow f) s) (λ r. refl) (λ r. refl)
    (λ r retry marked. counted.again r retry (marked_was (own_flow plan r) (mark_after plan (what.Flow f) r (s.mark r)) (s.mark r) (λ m. flow_mark_was plan r f (s.mark r) m) marked)) counted
counted_kept plan s hand (what.Resolve named how) tried asks counted =
    still_counted plan s (after plan hand (what.Resolve named how) s) (λ r. refl) (λ r. refl)
    (λ r retry marked. elim (resolved_again (own_flow plan r) (holds plan named r) named how (s.mark r) marked) [
      | inl new ↦ asks new.0 r retry new.1
      | inr old ↦ counted.again r retry old
    ]) counted
counted_kept plan s hand (what.Restart again) tried asks counted =
    still_counted plan s (after plan hand (what.Restart again) s) (λ r. refl) (λ r. refl) (λ r retry marked. counted.again r retry marked) counted
