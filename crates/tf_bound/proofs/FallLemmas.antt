-- Each entry of a run past those with which it enters makes less owed.
use Rattle.std.proofs.Common.{◌≡◌, ◌≢◌, ℕ, ◌+◌, ◌<◌, ◌≤◌, Bool, true, false, not, ◌&&◌, Option, Some, None, refl, sym, ap, ◌∙◌, inl, inr, eq-eqb, arith}
use Rattle.std.specs.Prelude.{if◌then◌else◌, is_none, nat_eq}
use Rattle.std.proofs.lemmas.Bool.{ne_eqb}
use Rattle.tf_states.specs.declared.record.Payload.{Payload}
use Rattle.tf_states.specs.declared.record.Payload.TheVariants as payload
use Rattle.tf_states.specs.declared.record.What.{What}
use Rattle.tf_states.specs.declared.record.What.TheVariants as what
use Rattle.tf_states.specs.declared.state.AtomState.{AtomState}
use Rattle.tf_states.specs.declared.state.AtomState.TheVariants as atom
use Rattle.tf_states.specs.declared.state.FlowState.{FlowState}
use Rattle.tf_states.specs.declared.state.FlowState.TheVariants as flow
use Rattle.tf_numbers.specs.Numbers.{first_below}
use Rattle.tf_model.specs.Plan.{Outline, count, holds, is_retry, is_task, own_flow}
use Rattle.tf_model.specs.History.{Resolve, Snapshot, later, mark_after, hand_after, begun_again, is_again, is_retry_of, is_at_work, is_pending, is_running, is_failure, is_done, is_settled, is_executed, is_retrying}
use Rattle.tf_model.specs.Readiness.{can_revert, is_unmarked}
use Rattle.tf_model.specs.Retries.{attempt, ends_with}
use Rattle.tf_model.specs.Forced.{holds_with, is_of_its_flow, is_to_put_back, put_back_or_run, is_beginning_again, ignored_entry, is_interrupted}
use Rattle.tf_model.proofs.StepLemmas.{revert_executed}
use Rattle.tf_numbers.proofs.TruthLemmas.{and_first, and_second, clash, either_way, true_both}
use Rattle.tf_numbers.proofs.BelowLemmas.{found_passes, found_below}
use Rattle.tf_facts.proofs.CoreLemmas.{retrying_is}
use Rattle.tf_facts.proofs.MoveLemmas.{after, marks_stay, pending_is}
use Rattle.tf_numbers.proofs.OptionLemmas.{is_this_number}
use Rattle.tf_bound.specs.Costs.{tries_at, sum_below}
use Rattle.tf_bound.specs.Owed.{held, owed_with, turn, left_with}
use Rattle.tf_bound.specs.Kept.{IsGuarded, IsCounted, IsMarkedWithin}
use Rattle.tf_bound.proofs.SumLemmas.{sum_at_most}
use Rattle.tf_bound.proofs.RoomLemmas.{IsWeighed}
use Rattle.tf_bound.proofs.OwedLemmas.{free_in, free, owed_if_free, owed_at_most, descends, moves, KeepsMarks, stays_held, unsettled_free, none_held, is_held, others_stay, one_falls, descent_falls, put_back_falls}
use Rattle.tf_bound.proofs.BeginLemmas.{begins_falls}
use Rattle.tf_facts.proofs.CaseLemmas.{NoneIs}

-- what is recorded makes less owed, whoever records it
abbrev pub Falls : Outline → (ℕ → ℕ) → Snapshot → What → Type 0
Falls plan attempt s w = (hand : ℕ) → left_with plan attempt (after plan hand w s) < left_with plan attempt s

-- ---- states by their tests

executed_reverts : (x : AtomState) → is_executed x ≡ true → (descends x atom.Reverting ≡ true) × (is_settled x ≡ false)
executed_reverts atom.Success is = (refl, refl)
executed_reverts atom.Failure is = (refl, refl)
executed_reverts x is = absurd (cc)

-- ---- an entry of one atom

-- to another state than RUNNING, where the atom isn't held
pub enters_falls : (plan : Outline) (attempt : ℕ → ℕ) (s : Snapshot) (a : ℕ) (to : AtomState) (carried : Payload) → a < count plan → is_running to ≡ false → descends (s.state a) to ≡ true → held plan s a ≡ false
    → Falls plan attempt s (what.Atom a to carried)
unfolding later
enters_falls plan attempt s a to carried below isnt down unheld hand =
    descent_falls plan attempt s (after plan hand (what.Atom a to carried) s) a to below (moves plan s hand a to carried) down unheld
    (λ b other failed now. ap is_none (sym (marks_stay plan a b to carried (s.mark b) isnt)) ∙ now)

-- from a state that isn't settled
pub unsettled_falls : (plan : Outline) (attempt : ℕ → ℕ) (s : Snapshot) (a : ℕ) (from to : AtomState) (carried : Payload) → IsGuarded plan s → a < count plan → s.state a ≡ from → is_settled from ≡ false → is_running to ≡ false
    → descends from to ≡ true → Falls plan attempt s (what.Atom a to carried)
unsettled_falls plan attempt s a from to carried guarded below was unsettled isnt down =
    enters_falls plan attempt s a to carried below isnt (ap (λ (x : AtomState). descends x to) was ∙ down) (unsettled_free plan s a guarded (ap is_settled was ∙ unsettled))

pub attempt_falls : (plan : Outline) (attempt : ℕ → ℕ) (s : Snapshot) (r : ℕ) (p : Payload) → IsGuarded plan s → r < count plan → s.state r ≡ atom.Running → Falls plan attempt s (ends_with r p)
attempt_falls plan attempt s r (payload.Value v) guarded below was = unsettled_falls plan attempt s r atom.Running atom.Success (payload.Value v) guarded below was refl refl refl
attempt_falls plan attempt s r (payload.Fault fault) guarded below was = unsettled_falls plan attempt s r atom.Running atom.Failure (payload.Fault fault) guarded below was refl refl refl
attempt_falls plan attempt s r payload.Empty guarded below was = unsettled_falls plan attempt s r atom.Running atom.Success payload.Empty guarded below was refl refl refl

pub reverting_falls : (plan : Outline) (attempt : ℕ → ℕ) (s : Snapshot) (a : ℕ) → IsGuarded plan s → a < count plan → can_revert plan s a ≡ true → Falls plan attempt s (what.Atom a atom.Reverting payload.Empty)
reverting_falls plan attempt s a guarded below can =
    let from = executed_reverts (s.state a) (revert_executed plan s a can) in
    unsettled_falls plan attempt s a (s.state a) atom.Reverting payload.Empty guarded below refl from.1 refl from.0

pub ignored_falls : (plan : Outline) (attempt : ℕ → ℕ) (s : Snapshot) (a : ℕ) → NoneIs plan (is_beginning_again plan s) → a < count plan → is_pending (s.state a) ≡ true → Falls plan attempt s (ignored_entry a)
ignored_falls plan attempt s a none below pending =
    enters_falls plan attempt s a atom.Ignore payload.Empty below refl (ap (λ (x : AtomState). descends x atom.Ignore) (pending_is (s.state a) pending)) (none_held plan s a none)

-- ---- RUNNING, which clears marks of a retry controller's own flow

begun_none : (own : Option ℕ) (o : Option Resolve) → is_none (begun_again own o) ≡ true → ((m : Resolve) → o ≡ Some m → is_retry_of own m ≡ true → ⊥) → is_none o ≡ true
begun_none own None now never = refl
begun_none own (Some m) now never = by (is_retry_of own m) refl now
  where
    by : (c : Bool) → is_retry_of own m ≡ c → is_none (if c then None else Some m) ≡ true → is_none (Some m) ≡ true
    by true is gone = absurd (never m refl is)
    by false is gone = gone

-- an atom that isn't another of its flow keeps its mark
pub run_marks : (plan : Outline) (s : Snapshot) (hand a b : ℕ) (carried : Payload) → IsMarkedWithin plan s → b ≢ a → is_of_its_flow plan a b ≡ false → is_unmarked (after plan hand (what.Atom a atom.Running carried) s) b ≡ true
    → is_unmarked s b ≡ true
unfolding later mark_after
run_marks plan s hand a b carried within other outside now = by (is_retry plan a) now
  where
    by : (c : Bool) → is_none (if c then begun_again (own_flow plan a) (s.mark b) else s.mark b) ≡ true → is_none (s.mark b) ≡ true
    by false gone = gone
    by true gone = begun_none (own_flow plan a) (s.mark b) gone (λ m is own.
        let home : own_flow plan a ≡ Some m.flow = is_this_number (own_flow plan a) m.flow (and_second (is_again m.kind) _ own) in
        clash (is_of_its_flow plan a b)
        (true_both (holds_with plan (own_flow plan a) b) _ (ap (λ (o : Option ℕ). holds_with plan o b) home ∙ within.marked b m is) (ap not (ne_eqb b a other))) outside)

failed_unsettled : (x : AtomState) → is_failure x ≡ true → is_settled x ≡ false
failed_unsettled atom.Failure is = refl
failed_unsettled x is = absurd (cc)

-- a task clears none
task_marks : (plan : Outline) (s : Snapshot) (hand a b : ℕ) (carried : Payload) → is_retry plan a ≡ false → is_unmarked (after plan hand (what.Atom a atom.Running carried) s) b ≡ true → is_unmarked s b ≡ true
unfolding later mark_after
task_marks plan s hand a b carried isnt now = by (is_retry plan a) isnt now
  where
    by : (c : Bool) → c ≡ false → is_none (if c then begun_again (own_flow plan a) (s.mark b) else s.mark b) ≡ true → is_none (s.mark b) ≡ true
    by false is gone = gone
    by true is gone = absurd (cc)

pub running_falls : (plan : Outline) (attempt : ℕ → ℕ) (s : Snapshot) (a : ℕ) → IsGuarded plan s → IsMarkedWithin plan s → NoneIs plan (is_beginning_again plan s) → a < count plan → s.state a ≡ atom.Pending
    → Falls plan attempt s (what.Atom a atom.Running payload.Empty)
running_falls plan attempt s a guarded within none below was hand =
    descent_falls plan attempt s (after plan hand (what.Atom a atom.Running payload.Empty) s) a atom.Running below (moves plan s hand a atom.Running payload.Empty)
    (ap (λ (x : AtomState). descends x atom.Running) was) (none_held plan s a none)
    (λ b other failed now. elim (either_way (is_retry plan a)) [
      | inr isnt ↦ task_marks plan s hand a b payload.Empty isnt now
      | inl is ↦ elim (either_way (is_of_its_flow plan a b)) [
        | inr outside ↦ run_marks plan s hand a b payload.Empty within other outside now
        | inl inside ↦ absurd (clash (is_settled (s.state b)) (guarded a b is (ap is_done was) inside) (failed_unsettled (s.state b) failed))
      ]
    ])

-- ---- a retry controller begins again

pending_marks : (plan : Outline) (s : Snapshot) (hand b : ℕ) → KeepsMarks s (after plan hand (what.Atom b atom.Pending payload.Empty) s) b
unfolding later
pending_marks plan s hand b c other failed now = ap is_none (sym (marks_stay plan b c atom.Pending payload.Empty (s.mark c) refl)) ∙ now

pub again_falls : (plan : Outline) (attempt : ℕ → ℕ) (s : Snapshot) (r : ℕ) → IsWeighed plan attempt → IsGuarded plan s → IsCounted plan s → IsMarkedWithin plan s → r < count plan → is_retry plan r ≡ true → is_retrying (s.state r) ≡ true
    → (o : Option ℕ) → first_below (count plan) (is_to_put_back plan s r) ≡ o → Falls plan attempt s (put_back_or_run r o)
again_falls plan attempt s r weighed guarded counted within below retry retrying None found hand =
    begins_falls plan attempt s (after plan hand (what.Atom r atom.Running payload.Empty) s) r weighed guarded counted below retry (retrying_is (s.state r) retrying) (moves plan s hand r atom.Running payload.Empty)
    (λ b other outside now. run_marks plan s hand r b payload.Empty within other outside now)
again_falls plan attempt s r weighed guarded counted within below retry retrying (Some b) found hand =
    let test = found_passes (count plan) (is_to_put_back plan s r) b found in
    put_back_falls plan attempt s (after plan hand (what.Atom b atom.Pending payload.Empty) s) b (found_below (count plan) (is_to_put_back plan s r) b found) (moves plan s hand b atom.Pending payload.Empty)
    (and_second (is_of_its_flow plan r b) _ test)
    (is_held plan s b (record { number = r; below = below; retry = retry; retrying = retrying; flow = and_first (is_of_its_flow plan r b) _ test }))
    (pending_marks plan s hand b)

-- ---- marks, hands and the flow's state change

-- states, attempts and the flow's state stay
pub record Stays (s t : Snapshot) : Type 0 where
  pub states : (b : ℕ) → t.state b ≡ s.state b
  pub attempts : (b : ℕ) → t.attempts b ≡ s.attempts b
  pub flow : t.flow ≡ s.flow

-- one atom that isn't settled owes less, and no other more
stays_falls : (plan : Outline) (attempt : ℕ → ℕ) (s t : Snapshot) (a : ℕ) → IsGuarded plan s → a < count plan → is_settled (s.state a) ≡ false → Stays s t → free plan attempt t a + 1 ≤ free plan attempt s a
    → ((b : ℕ) → b ≢ a → t.hand b ≡ s.hand b) → ((b : ℕ) → is_unmarked t b ≡ true → is_unmarked s b ≡ true) → left_with plan attempt t < left_with plan attempt s
stays_falls plan attempt s t a guarded below unsettled stays falls hands marks =
    let before : owed_with plan attempt s a ≡ free plan attempt s a = owed_if_free plan attempt s a (unsettled_free plan s a guarded unsettled) in
    let now : owed_with plan attempt t a ≤ free plan attempt t a = owed_at_most plan attempt t a in
    one_falls plan attempt s t a below stays.flow (omega (arith, before, now, falls))
    (λ b other. others_stay plan attempt s t b (record { state = stays.states b; attempts = stays.attempts b; hand = hands b other }) (λ failed. marks b)
    (stays_held plan s t b (λ r inside retrying. ap is_retrying (stays.states r) ∙ retrying)))

gains_mark : (b : Bool) (m : Resolve) (o : Option Resolve) → is_none (if b then Some m else o) ≡ true → is_none o ≡ true
gains_mark true m o is = absurd (cc)
gains_mark false m o is = is

marked_now : (b : Bool) (m : Resolve) (o : Option Resolve) → b ≡ true → is_none (if b then Some m else o) ≡ false
marked_now true m o is = refl
marked_now false m o is = absurd (cc)

-- a failure is resolved
pub resolve_falls : (plan : Outline) (attempt : ℕ → ℕ) (s : Snapshot) (a : ℕ) (m : Resolve) → IsGuarded plan s → a < count plan → is_failure (s.state a) ≡ true → is_unmarked s a ≡ true → holds plan m.flow a ≡ true
    → Falls plan attempt s (what.Resolve m.flow m.kind)
unfolding later mark_after
resolve_falls plan attempt s a m guarded below failed unmarked inside hand =
    stays_falls plan attempt s (after plan hand (what.Resolve m.flow m.kind) s) a guarded below (failed_unsettled (s.state a) failed)
    (record { states = λ b. refl; attempts = λ b. refl; flow = refl })
    (less (s.state a) (is_unmarked s a) (is_none (if holds plan m.flow a then Some m else s.mark a)) (is_interrupted plan s a) (tries_at plan a) (s.attempts a) (attempt a) failed unmarked
    (marked_now (holds plan m.flow a) m (s.mark a) inside))
    (λ b other. refl)
    (λ b now. gains_mark (holds plan m.flow b) m (s.mark b) now)
  where
    less : (x : AtomState) (was now stopped : Bool) (tries made cost : ℕ) → is_failure x ≡ true → was ≡ true → now ≡ false → free_in x now stopped tries made cost + 1 ≤ free_in x was stopped tries made cost
    less atom.Failure true false stopped tries made cost failed is isnt = omega arith
    less atom.Failure false now stopped tries made cost failed is isnt = absurd (cc)
    less atom.Failure was true stopped tries made cost failed is isnt = absurd (cc)
    less x was now stopped tries made cost failed is isnt = absurd (cc)

at_work_unsettled : (x : AtomState) → is_at_work x ≡ true → is_settled x ≡ false
at_work_unsettled atom.Running is = refl
at_work_unsettled atom.Reverting is = refl
at_work_unsettled x is = absurd (cc)

number_here : (a : ℕ) (now was : Option ℕ) → (if nat_eq a a then now else was) ≡ now
number_here a now was = rw (eq-eqb a a refl) refl

-- an interrupted task is restarted
pub restart_falls : (plan : Outline) (attempt : ℕ → ℕ) (s : Snapshot) (a : ℕ) → IsGuarded plan s → a < count plan → is_interrupted plan s a ≡ true → Falls plan attempt s (what.Restart a)
unfolding later mark_after
restart_falls plan attempt s a guarded below stopped hand =
    let works = and_first (is_at_work (s.state a)) _ (and_second (is_task plan a) _ stopped) in
    stays_falls plan attempt s (after plan hand (what.Restart a) s) a guarded below (at_work_unsettled (s.state a) works)
    (record { states = λ b. refl; attempts = λ b. refl; flow = refl })
    (less (s.state a) (is_unmarked s a) (is_interrupted plan s a) (is_task plan a && (is_at_work (s.state a) && is_none (if nat_eq a a then Some hand else s.hand a))) (tries_at plan a) (s.attempts a) (attempt a) stopped
    (flies (is_task plan a) (is_at_work (s.state a)) (if nat_eq a a then Some hand else s.hand a) (number_here a (Some hand) (s.hand a))))
    (λ b other. rw (ne_eqb a b (λ same. other (sym same))) refl)
    (λ b now. now)
  where
    less : (x : AtomState) (unmarked was now : Bool) (tries made cost : ℕ) → was ≡ true → now ≡ false → free_in x unmarked now tries made cost + 1 ≤ free_in x unmarked was tries made cost
    less x unmarked true false tries made cost is isnt = omega arith
    less x unmarked false now tries made cost is isnt = absurd (cc)
    less x unmarked was true tries made cost is isnt = absurd (cc)

    flies : (task works : Bool) (o : Option ℕ) → o ≡ Some hand → task && (works && is_none o) ≡ false
    flies true true o is = ap is_none is
    flies true false o is = refl
    flies false works o is = refl

-- the flow turns to another state than PENDING and RESUMING
abbrev goes_on : FlowState → Bool
goes_on flow.Pending = false
goes_on flow.Resuming = false
goes_on state = true

flow_hands : (plan : Outline) (hand b : ℕ) (f : FlowState) (o : Option ℕ) → goes_on f ≡ true → hand_after plan hand (what.Flow f) b o ≡ o
flow_hands plan hand b flow.Pending o is = absurd (cc)
flow_hands plan hand b flow.Resuming o is = absurd (cc)
flow_hands plan hand b flow.Running o is = refl
flow_hands plan hand b flow.Suspending o is = refl
flow_hands plan hand b flow.Suspended o is = refl
flow_hands plan hand b flow.Success o is = refl
flow_hands plan hand b flow.Failure o is = refl
flow_hands plan hand b flow.Reverted o is = refl

flow_marks : (plan : Outline) (b : ℕ) (f : FlowState) (o : Option Resolve) → goes_on f ≡ true → mark_after plan (what.Flow f) b o ≡ o
unfolding mark_after
flow_marks plan b flow.Pending o is = absurd (cc)
flow_marks plan b flow.Resuming o is = absurd (cc)
flow_marks plan b flow.Running o is = refl
flow_marks plan b flow.Suspending o is = refl
flow_marks plan b flow.Suspended o is = refl
flow_marks plan b flow.Success o is = refl
flow_marks plan b flow.Failure o is = refl
flow_marks plan b flow.Reverted o is = refl

pub turn_falls : (plan : Outline) (attempt : ℕ → ℕ) (s : Snapshot) (f : FlowState) → goes_on f ≡ true → turn f < turn s.flow → Falls plan attempt s (what.Flow f)
unfolding later
turn_falls plan attempt s f goes less hand =
    let t = after plan hand (what.Flow f) s in
    let sum : sum_below (count plan) (owed_with plan attempt t) ≤ sum_below (count plan) (owed_with plan attempt s)
    = sum_at_most (count plan) (owed_with plan attempt t) (owed_with plan attempt s) (λ b below.
    others_stay plan attempt s t b (record { state = refl; attempts = refl; hand = flow_hands plan hand b f (s.hand b) goes })
    (λ failed now. ap is_none (sym (flow_marks plan b f (s.mark b) goes)) ∙ now) (stays_held plan s t b (λ r inside retrying. retrying))) in
    omega (arith, sum, less)
