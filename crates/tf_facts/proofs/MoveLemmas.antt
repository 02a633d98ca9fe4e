-- What an entry changes, and which entries of one atom keep what every moment has.
use Rattle.std.proofs.Common.{◌≡◌, ◌≢◌, ℕ, Bool, true, false, not, ◌&&◌, ◌||◌, Option, Some, None, refl, sym, ap, ◌∙◌, inl, inr, eq-eqb}
use Rattle.std.specs.Prelude.{if◌then◌else◌, is_none, nat_eq}
use Rattle.std.proofs.lemmas.Bool.{ne_eqb}
use Rattle.tf_states.specs.declared.record.Payload.{Payload}
use Rattle.tf_states.specs.declared.record.What.{What}
use Rattle.tf_states.specs.declared.record.What.TheVariants as what
use Rattle.tf_states.specs.declared.state.AtomState.{AtomState}
use Rattle.tf_states.specs.declared.state.AtomState.TheVariants as atom
use Rattle.tf_model.specs.Plan.{Outline, count, is_before, is_retry, own_flow}
use Rattle.tf_model.specs.History.{Resolve, Snapshot, later, mark_after, begun_again, is_again, is_retry_of, is_pending, is_running, is_done, is_settled, is_executed, flow_is_reverted}
use Rattle.tf_model.specs.Readiness.{can_run, can_revert, lets_run, lets_revert, is_unmarked}
use Rattle.tf_numbers.proofs.TruthLemmas.{and_first, and_second, or_either, clash, either_way, and_false, not_true}
use Rattle.tf_facts.proofs.LayoutLemmas.{own_holds, before_below, before_below_first}
use Rattle.tf_numbers.proofs.BelowLemmas.{all_at}
use Rattle.tf_facts.proofs.CoreLemmas.{Core, Turned, Allows, kept, not_none}
use Rattle.tf_facts.proofs.ChangeLemmas.{may_run}
use Rattle.tf_numbers.proofs.OptionLemmas.{is_this_number}

-- the snapshot after a hand recorded an event
abbrev pub after : Outline → ℕ → What → Snapshot → Snapshot
after plan hand w s = later plan (record { hand = hand; what = w }) s

-- what every moment has is kept by the event
abbrev pub Keeps : Outline → Snapshot → What → Type 0
Keeps plan s w = (hand : ℕ) → Core plan s → Core plan (after plan hand w s)

-- ---- what an entry of an atom changes

pub entered_here : (a : ℕ) (to was : AtomState) → (if nat_eq a a then to else was) ≡ to
entered_here a to was = rw (eq-eqb a a refl) refl

pub stays_there : (a b : ℕ) (to was : AtomState) → b ≢ a → (if nat_eq a b then to else was) ≡ was
stays_there a b to was other = rw (ne_eqb a b (λ same. other (sym same))) refl

pub turns : (plan : Outline) (s : Snapshot) (hand a : ℕ) (from to : AtomState) (held : Payload) → s.state a ≡ from
    → ((b : ℕ) → mark_after plan (what.Atom a to held) b (s.mark b) ≡ s.mark b) → Turned s (after plan hand (what.Atom a to held) s) a from to
unfolding later
turns plan s hand a from to held was marks = record {
  was = was;
  is = entered_here a to (s.state a);
  others = λ b other. stays_there a b to (s.state b) other;
  marks = marks;
  flow = refl;
}

-- only RUNNING changes marks
pub marks_stay : (plan : Outline) (a b : ℕ) (to : AtomState) (held : Payload) (m : Option Resolve) → is_running to ≡ false → mark_after plan (what.Atom a to held) b m ≡ m
unfolding mark_after
marks_stay plan a b atom.Running held m isnt = absurd (cc)
marks_stay plan a b atom.Pending held m isnt = refl
marks_stay plan a b atom.Success held m isnt = refl
marks_stay plan a b atom.Failure held m isnt = refl
marks_stay plan a b atom.Reverting held m isnt = refl
marks_stay plan a b atom.Reverted held m isnt = refl
marks_stay plan a b atom.RevertFailure held m isnt = refl
marks_stay plan a b atom.Ignore held m isnt = refl
marks_stay plan a b atom.Retrying held m isnt = refl

-- an entry of one atom that isn't RUNNING
pub enters_kept : (plan : Outline) (s : Snapshot) (a : ℕ) (from to : AtomState) (held : Payload) → s.state a ≡ from → is_running to ≡ false → (Core plan s → Allows plan s a from to) → Keeps plan s (what.Atom a to held)
enters_kept plan s a from to held was isnt allows hand core =
    kept plan s (after plan hand (what.Atom a to held) s) a from to core (turns plan s hand a from to held was (λ b. marks_stay plan a b to held (s.mark b) isnt)) (allows core)

-- ---- what can run and what can revert

pub pending_is : (x : AtomState) → is_pending x ≡ true → x ≡ atom.Pending
pending_is atom.Pending is = refl
pending_is x is = absurd (cc)

pub none_is : (o : Option Resolve) → is_none o ≡ true → o ≡ None
none_is None is = refl
none_is (Some m) is = absurd (cc)

-- where the first holds, so does the second
pub then_second : (a b : Bool) → not a || b ≡ true → a ≡ true → b ≡ true
then_second a b is first = elim (or_either (not a) b is) [ inl isnt ↦ absurd (clash a first (not_true a isnt)) | inr second ↦ second ]

-- what it means that an atom can run
pub record CanRun (plan : Outline) (s : Snapshot) (a : ℕ) : Type 0 where
  pub pending : s.state a ≡ atom.Pending
  pub unmarked : s.mark a ≡ None
  pub done : (x : ℕ) → is_before plan x a ≡ true → is_done (s.state x) ≡ true

pub runs : (plan : Outline) (s : Snapshot) (a : ℕ) → can_run plan s a ≡ true → CanRun plan s a
unfolding can_run
runs plan s a is =
    let ready = and_first (is_pending (s.state a) && is_unmarked s a) _ is in
    record {
      pending = pending_is (s.state a) (and_first (is_pending (s.state a)) (is_unmarked s a) ready);
      unmarked = none_is (s.mark a) (and_second (is_pending (s.state a)) (is_unmarked s a) ready);
      done = λ x before. then_second (is_before plan x a) (is_done (s.state x))
          (all_at (count plan) (lets_run plan s a) x (and_second (is_pending (s.state a) && is_unmarked s a) _ is) (before_below_first plan x a before)) before;
    }

-- what it means that an atom can revert
pub record CanRevert (plan : Outline) (s : Snapshot) (a : ℕ) : Type 0 where
  pub executed : is_executed (s.state a) ≡ true
  pub marked : is_none (s.mark a) ≡ false
  pub settled : (x : ℕ) → is_before plan a x ≡ true → is_settled (s.state x) ≡ true

pub reverts : (plan : Outline) (s : Snapshot) (a : ℕ) → can_revert plan s a ≡ true → CanRevert plan s a
unfolding can_revert
reverts plan s a is =
    let ready = and_first (is_executed (s.state a) && not (is_unmarked s a)) _ is in
    record {
      executed = and_first (is_executed (s.state a)) (not (is_unmarked s a)) ready;
      marked = not_true (is_unmarked s a) (and_second (is_executed (s.state a)) (not (is_unmarked s a)) ready);
      settled = λ x before. then_second (is_before plan a x) (is_settled (s.state x))
          (all_at (count plan) (lets_revert plan s a) x (and_second (is_executed (s.state a) && not (is_unmarked s a)) _ is) (before_below plan a x before)) before;
    }

-- ---- RUNNING clears marks of a retry controller's own flow alone

pub begun_is : (own : Option ℕ) (o : Option Resolve) → ((m : Resolve) → o ≡ Some m → is_retry_of own m ≡ false) → begun_again own o ≡ o
begun_is own None each = refl
begun_is own (Some m) each = rw (each m refl) refl

-- an unmarked atom that runs clears none
run_clears_none : (plan : Outline) (s : Snapshot) (a b : ℕ) (held : Payload) → Core plan s → s.mark a ≡ None → mark_after plan (what.Atom a atom.Running held) b (s.mark b) ≡ s.mark b
unfolding mark_after
run_clears_none plan s a b held core unmarked = by (is_retry plan a)
  where
    by : (c : Bool) → (if c then begun_again (own_flow plan a) (s.mark b) else s.mark b) ≡ s.mark b
    by false = refl
    by true = begun_is (own_flow plan a) (s.mark b) (λ m is. elim (either_way (is_retry_of (own_flow plan a) m)) [
      | inr isnt ↦ isnt
      | inl own ↦
          let home : own_flow plan a ≡ Some m.flow = is_this_number (own_flow plan a) m.flow (and_second (is_again m.kind) _ own) in
          absurd (not_none s a m ((core.whole b m is).1 a (own_holds plan a m.flow home)) unmarked)
    ])

pub run_kept : (plan : Outline) (s : Snapshot) → flow_is_reverted s.flow ≡ false → (a : ℕ) (held : Payload) → can_run plan s a ≡ true → Keeps plan s (what.Atom a atom.Running held)
run_kept plan s going a held can hand core =
    let ready = runs plan s a can in
    kept plan s (after plan hand (what.Atom a atom.Running held) s) a atom.Pending atom.Running core
    (turns plan s hand a atom.Pending atom.Running held ready.pending (λ b. run_clears_none plan s a b held core ready.unmarked)) (may_run plan s going a ready.unmarked ready.done)

-- a retry controller that stands in no flow clears none
pub flowless_clears_none : (plan : Outline) (a b : ℕ) (held : Payload) (m : Option Resolve) → own_flow plan a ≡ None → mark_after plan (what.Atom a atom.Running held) b m ≡ m
unfolding mark_after
flowless_clears_none plan a b held m home = by (is_retry plan a)
  where
    by : (c : Bool) → (if c then begun_again (own_flow plan a) m else m) ≡ m
    by false = refl
    by true = begun_is (own_flow plan a) m (λ n is. ap (λ (o : Option ℕ). is_retry_of o n) home ∙ and_false (is_again n.kind))
