-- Attempts are fewer than tries, at each moment of a run.
use Rattle.std.proofs.Common.{◌≡◌, ℕ, ◌<◌, ◌≤◌, [], Bool, true, false, ◌||◌, refl, subst, inl, inr, arith, eqb-true}
use Rattle.std.specs.Prelude.{if◌then◌else◌, nat_eq}
use Rattle.tf_states.specs.declared.record.Entry.{Entry}
use Rattle.tf_states.specs.declared.record.What.{What}
use Rattle.tf_states.specs.declared.record.What.TheVariants as what
use Rattle.tf_states.specs.declared.state.AtomState.{AtomState}
use Rattle.tf_states.specs.declared.state.AtomState.TheVariants as atom
use Rattle.tf_states.specs.declared.state.FlowState.TheVariants as flow
use Rattle.tf_model.specs.Plan.{Outline}
use Rattle.tf_model.specs.History.{Snapshot, later, attempts_in, snapshot, is_pending, is_running, is_retrying}
use Rattle.tf_model.specs.Steps.{Step}
use Rattle.tf_numbers.proofs.TruthLemmas.{or_either}
use Rattle.tf_bound.specs.Costs.{tries_at, HasAttempts}
use Rattle.tf_bound.specs.Kept.{IsCounted}
use Rattle.tf_machine.specs.Tries.{HasTries}
use Rattle.tf_hands.specs.Hands.{FlightFacts}
use Rattle.tf_hands.proofs.FitLemmas.{StateFits, Fits, step_fits}

-- the snapshot after what a hand recorded
abbrev after : Outline → Snapshot → ℕ → What → Snapshot
after plan s hand w = later plan (record { hand = hand; what = w }) s

-- ---- attempts

-- the tries of an atom after it entered a state
record StillTries (tries made : ℕ) (state : AtomState) : Type 0 where
  pending : is_pending state ≡ true → attempts_in state made ≡ 0
  running : is_running state ≡ true → attempts_in state made < tries
  most : attempts_in state made ≤ tries

begins_fewer : (plan : Outline) (s : Snapshot) (a : ℕ) → HasAttempts plan → IsCounted plan s → HasTries plan s → is_pending (s.state a) || is_retrying (s.state a) ≡ true → s.attempts a < tries_at plan a
begins_fewer plan s a some counted tries is = elim (or_either (is_pending (s.state a)) _ is) [
  | inl pending ↦ let none : s.attempts a ≡ 0 = tries.pending a pending in let least : 1 ≤ tries_at plan a = some a in omega (arith, none, least)
  | inr retrying ↦ (counted.retrying a retrying).fewer
]

still_tries : (plan : Outline) (s : Snapshot) (hand a : ℕ) (state : AtomState) → HasAttempts plan → IsCounted plan s → HasTries plan s → StateFits plan s hand a state → StillTries (tries_at plan a) (s.attempts a) state
still_tries plan s hand a atom.Pending some counted tries fits = record { pending = λ is. refl; running = λ is. absurd (cc); most = omega arith }
still_tries plan s hand a atom.Running some counted tries fits =
    let fewer : s.attempts a < tries_at plan a = begins_fewer plan s a some counted tries fits.1 in
    record { pending = λ is. absurd (cc); running = λ is. fewer; most = tries.most a }
still_tries plan s hand a atom.Success some counted tries fits =
    let fewer : s.attempts a < tries_at plan a = tries.running a fits in
    record { pending = λ is. absurd (cc); running = λ is. absurd (cc); most = omega (arith, fewer) }
still_tries plan s hand a atom.Failure some counted tries fits = record { pending = λ is. absurd (cc); running = λ is. absurd (cc); most = tries.most a }
still_tries plan s hand a atom.Reverting some counted tries fits = record { pending = λ is. absurd (cc); running = λ is. absurd (cc); most = tries.most a }
still_tries plan s hand a atom.Reverted some counted tries fits = record { pending = λ is. absurd (cc); running = λ is. absurd (cc); most = tries.most a }
still_tries plan s hand a atom.RevertFailure some counted tries fits = record { pending = λ is. absurd (cc); running = λ is. absurd (cc); most = tries.most a }
still_tries plan s hand a atom.Ignore some counted tries fits = record { pending = λ is. absurd (cc); running = λ is. absurd (cc); most = tries.most a }
still_tries plan s hand a atom.Retrying some counted tries fits = record { pending = λ is. absurd (cc); running = λ is. absurd (cc); most = tries.most a }

-- of each atom, after one entered a state
each_tries : (plan : Outline) (s : Snapshot) (hand a b : ℕ) (state : AtomState) (x : Bool) → nat_eq a b ≡ x → HasAttempts plan → IsCounted plan s → HasTries plan s → StateFits plan s hand a state
    → (is_pending (if x then state else s.state b) ≡ true → (if x then attempts_in state (s.attempts b) else s.attempts b) ≡ 0)
    × (is_running (if x then state else s.state b) ≡ true → (if x then attempts_in state (s.attempts b) else s.attempts b) < tries_at plan b)
    × ((if x then attempts_in state (s.attempts b) else s.attempts b) ≤ tries_at plan b)
each_tries plan s hand a b state true same some counted tries fits =
    let still = still_tries plan s hand b state some counted tries (subst (λ (k : ℕ). StateFits plan s hand k state) (eqb-true a b same) fits) in
    (still.pending, still.running, still.most)
each_tries plan s hand a b state false other some counted tries fits = (tries.pending b, tries.running b, tries.most b)

tries_kept : (plan : Outline) (s : Snapshot) (hand : ℕ) (w : What) → HasAttempts plan → IsCounted plan s → HasTries plan s → Fits plan s hand w → HasTries plan (after plan s hand w)
unfolding later
tries_kept plan s hand (what.Atom a state held) some counted tries fits = record {
  pending = λ b. (each_tries plan s hand a b state (nat_eq a b) refl some counted tries fits.1).0;
  running = λ b. (each_tries plan s hand a b state (nat_eq a b) refl some counted tries fits.1).1;
  most = λ b. (each_tries plan s hand a b state (nat_eq a b) refl some counted tries fits.1).2;
}
tries_kept plan s hand (what.Flow state) some counted tries fits = record { pending = tries.pending; running = tries.running; most = tries.most }
tries_kept plan s hand (what.Resolve named resolved) some counted tries fits = record { pending = tries.pending; running = tries.running; most = tries.most }
tries_kept plan s hand (what.Restart again) some counted tries fits = record { pending = tries.pending; running = tries.running; most = tries.most }

-- a step keeps them
pub step_tries : (plan : Outline) (s : Snapshot) (e : Entry) → HasAttempts plan → IsCounted plan s → FlightFacts plan s → HasTries plan s → Step plan s e → HasTries plan (later plan e s)
step_tries plan s e some counted facts tries step = tries_kept plan s e.hand e.what some counted tries (step_fits plan s e facts step)

-- before a run no attempt was made
pub first_tries : (plan : Outline) → HasTries plan (snapshot plan [])
unfolding snapshot
first_tries plan = record { pending = λ a is. refl; running = λ a is. absurd (cc); most = λ a. omega arith }
