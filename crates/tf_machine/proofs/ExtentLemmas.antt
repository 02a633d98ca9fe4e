-- What an entry changes of the atoms other than its own.
use Rattle.std.proofs.Common.{◌≡◌, ℕ, Bool, true, false, ◌&&◌, refl, ap, ◌∙◌, eqb-true}
use Rattle.std.specs.Prelude.{nat_eq, if◌then◌else◌, Option, Some, None}
use Rattle.tf_states.specs.declared.record.Payload.{Payload}
use Rattle.tf_states.specs.declared.record.What.TheVariants as what
use Rattle.tf_states.specs.declared.state.AtomState.{AtomState}
use Rattle.tf_states.specs.declared.state.AtomState.TheVariants as atom
use Rattle.tf_model.specs.Plan.{Outline, holds, is_retry, is_task, own_flow}
use Rattle.tf_model.specs.History.{Snapshot, Resolve, is_at_work, is_again, is_retry_of, later, mark_after, begun_again, is_running}
use Rattle.tf_model.specs.Forced.{holds_with}
use Rattle.tf_numbers.proofs.TruthLemmas.{and_second, clash, never_true}
use Rattle.tf_states.specs.declared.record.Kind.{Kind}
use Rattle.tf_machine.specs.declared.worklists.Extent.TheVariants as extent
use Rattle.tf_machine.specs.Worklists.{AreMoved, AreMarksHeld, event}

-- the marks stay as an atom enters a state, unless it is a retry controller that begins to run
mark_stays : (plan : Outline) (a : ℕ) (state : AtomState) (held : Payload) (b : ℕ) (before : Option Resolve) → is_running state && is_retry plan a ≡ false → mark_after plan (what.Atom a state held) b before ≡ before
unfolding mark_after
mark_stays plan a atom.Running held b before calm = ap (λ (x : Bool). if x then begun_again (own_flow plan a) before else before) calm
mark_stays plan a atom.Pending held b before calm = refl
mark_stays plan a atom.Success held b before calm = refl
mark_stays plan a atom.Failure held b before calm = refl
mark_stays plan a atom.Reverting held b before calm = refl
mark_stays plan a atom.Reverted held b before calm = refl
mark_stays plan a atom.RevertFailure held b before calm = refl
mark_stays plan a atom.Ignore held b before calm = refl
mark_stays plan a atom.Retrying held b before calm = refl

pub entered_around : (plan : Outline) (s : Snapshot) (hand a : ℕ) (state : AtomState) (held : Payload) → is_running state && is_retry plan a ≡ false → AreMoved plan s (extent.Around a) (later plan (event hand (what.Atom a state held)) s)
unfolding later
entered_around plan s hand a state held calm = record {
  states = λ b other. ap (λ (x : Bool). if x then state else s.state b) other;
  others = λ b other free. record {
    state = ap (λ (x : Bool). if x then state else s.state b) other;
    mark = mark_stays plan a state held b (s.mark b) calm;
    hand = ap (λ (x : Bool). if x then (if is_task plan b && is_at_work state then Some hand else None) else s.hand b) other;
  };
}

-- where a flow doesn't hold an atom, the mark of the atom is none that its retry controller clears
pub kept_outside : (plan : Outline) (own : Option ℕ) (b : ℕ) (m : Resolve) → holds plan m.flow b ≡ true → holds_with plan own b ≡ false → is_retry_of own m ≡ false
kept_outside plan None b m held free = never_true (is_again m.kind && false) (λ is. let no = and_second (is_again m.kind) false is in absurd (cc))
kept_outside plan (Some g) b m held free = never_true (is_again m.kind && nat_eq g m.flow) (λ is.
    let same : g ≡ m.flow = eqb-true g m.flow (and_second (is_again m.kind) (nat_eq g m.flow) is) in
    clash (holds plan g b) (ap (λ (h : ℕ). holds plan h b) same ∙ held) free)

begun_outside : (plan : Outline) (own : Option ℕ) (b : ℕ) (before : Option Resolve) → ((m : Resolve) → before ≡ Some m → holds plan m.flow b ≡ true) → holds_with plan own b ≡ false → begun_again own before ≡ before
begun_outside plan own b None held free = refl
begun_outside plan own b (Some m) held free = ap (λ (x : Bool). if x then None else Some m) (kept_outside plan own b m (held m refl) free)

begun_by : (plan : Outline) (a : ℕ) (state : AtomState) (held : Payload) (b : ℕ) (before : Option Resolve) → is_running state && is_retry plan a ≡ true → mark_after plan (what.Atom a state held) b before ≡ begun_again (own_flow plan a) before
unfolding mark_after
begun_by plan a atom.Running held b before begins = ap (λ (x : Bool). if x then begun_again (own_flow plan a) before else before) begins
begun_by plan a atom.Pending held b before begins = absurd (cc)
begun_by plan a atom.Success held b before begins = absurd (cc)
begun_by plan a atom.Failure held b before begins = absurd (cc)
begun_by plan a atom.Reverting held b before begins = absurd (cc)
begun_by plan a atom.Reverted held b before begins = absurd (cc)
begun_by plan a atom.RevertFailure held b before begins = absurd (cc)
begun_by plan a atom.Ignore held b before begins = absurd (cc)
begun_by plan a atom.Retrying held b before begins = absurd (cc)

pub entered_begun : (plan : Outline) (s : Snapshot) (hand a : ℕ) (state : AtomState) (held : Payload) → AreMarksHeld plan s → is_running state && is_retry plan a ≡ true → AreMoved plan s (extent.Begin a) (later plan (event hand (what.Atom a state held)) s)
unfolding later
entered_begun plan s hand a state held marked begins = record {
  states = λ b other. ap (λ (x : Bool). if x then state else s.state b) other;
  others = λ b other free. record {
    state = ap (λ (x : Bool). if x then state else s.state b) other;
    mark = begun_by plan a state held b (s.mark b) begins ∙ begun_outside plan (own_flow plan a) b (s.mark b) (marked b) free;
    hand = ap (λ (x : Bool). if x then (if is_task plan b && is_at_work state then Some hand else None) else s.hand b) other;
  };
}

pub resolved_flow : (plan : Outline) (s : Snapshot) (hand g : ℕ) (kind : Kind) → AreMoved plan s (extent.Flow g) (later plan (event hand (what.Resolve g kind)) s)
unfolding later mark_after
resolved_flow plan s hand g kind = record {
  states = λ b other. refl;
  others = λ b other free. record { state = refl; mark = ap (λ (x : Bool). if x then Some (record { flow = g; kind = kind }) else s.mark b) free; hand = refl };
}

pub restarted_around : (plan : Outline) (s : Snapshot) (hand a : ℕ) → AreMoved plan s (extent.Around a) (later plan (event hand (what.Restart a)) s)
unfolding later mark_after
restarted_around plan s hand a = record {
  states = λ b other. refl;
  others = λ b other free. record {
    state = refl;
    mark = refl;
    hand = ap (λ (x : Bool). if x then Some hand else s.hand b) other;
  };
}
