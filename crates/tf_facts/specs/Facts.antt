-- What holds at every moment of a run, and what it means that a run ended REVERTED.
use Rattle.std.specs.Prelude.{◌≡◌, ◌≢◌, ◌<◌, ℕ, List, [], ◌∷◌, Bool, true, false, Some, nat_eq, if◌then◌else◌}
use Rattle.tf_states.specs.declared.record.Entry.{Entry}
use Rattle.tf_states.specs.declared.record.What.{What}
use Rattle.tf_states.specs.declared.record.What.TheVariants as what
use Rattle.tf_states.specs.declared.state.AtomState.{AtomState}
use Rattle.tf_states.specs.declared.state.AtomState.TheVariants as atom
use Rattle.tf_model.specs.Plan.{Outline, count, is_before, holds, own_flow}
use Rattle.tf_model.specs.History.{Resolve, Snapshot, snapshot, state_of, is_done, is_settled, is_reverting, is_retrying, flow_is_reverted}
use Rattle.tf_model.specs.Readiness.{is_unmarked, is_region}
use Rattle.tf_model.specs.Steps.{is_idle}
use Rattle.tf_model.specs.Laws.{enters_by}

-- ---- states

-- open, so that what is after it is settled: PENDING, FAILURE, REVERTING, REVERTED or REVERT_FAILURE
abbrev pub is_open : AtomState → Bool
is_open atom.Pending = true
is_open atom.Failure = true
is_open atom.Reverting = true
is_open atom.Reverted = true
is_open atom.RevertFailure = true
is_open state = false

-- being undone, or undone: REVERTING, REVERTED, REVERT_FAILURE or RETRYING
abbrev pub is_undoing : AtomState → Bool
is_undoing atom.Reverting = true
is_undoing atom.Reverted = true
is_undoing atom.RevertFailure = true
is_undoing atom.Retrying = true
is_undoing state = false

-- ---- seven facts

-- all that is before an atom that isn't settled is done
abbrev pub IsInOrder : Outline → Snapshot → Type 0
IsInOrder plan s = (a b : ℕ) → is_before plan a b ≡ true → is_settled (s.state b) ≡ false → is_done (s.state a) ≡ true

-- a mark from a resolve is on an atom that the resolved flow holds, and on all atoms that it holds
abbrev pub HasWholeMarks : Outline → Snapshot → Type 0
HasWholeMarks plan s = (a : ℕ) (m : Resolve) → s.mark a ≡ Some m
    → (holds plan m.flow a ≡ true) × ((b : ℕ) → holds plan m.flow b ≡ true → s.mark b ≡ Some m)

-- an open atom that flow g holds
pub record OpenAtom (plan : Outline) (s : Snapshot) (g : ℕ) : Type 0 where
  pub number : ℕ
  pub inside : holds plan g number ≡ true
  pub opened : is_open (s.state number) ≡ true

-- each region has an open atom
abbrev pub HasOpenAtoms : Outline → Snapshot → Type 0
HasOpenAtoms plan s = (g : ℕ) → is_region plan s g ≡ true → OpenAtom plan s g

-- all that is outside a region and after one of its atoms is settled
abbrev pub IsSettledAfter : Outline → Snapshot → Type 0
IsSettledAfter plan s = (g y x : ℕ) → is_region plan s g ≡ true → holds plan g y ≡ true → holds plan g x ≡ false
    → is_before plan y x ≡ true → is_settled (s.state x) ≡ true

-- all that is outside a region and before one of its atoms is done
abbrev pub IsDoneBefore : Outline → Snapshot → Type 0
IsDoneBefore plan s = (g y x : ℕ) → is_region plan s g ≡ true → holds plan g y ≡ true → holds plan g x ≡ false
    → is_before plan x y ≡ true → is_done (s.state x) ≡ true

-- the mark of an atom that is being undone, or is undone, isn't EXECUTE
abbrev pub IsUndoneByMark : Outline → Snapshot → Type 0
IsUndoneByMark plan s = (a : ℕ) → a < count plan → is_undoing (s.state a) ≡ true → is_unmarked s a ≡ false

-- while an atom is RETRYING, all others that its own flow holds are settled
abbrev pub IsAloneRetrying : Outline → Snapshot → Type 0
IsAloneRetrying plan s = (r g b : ℕ) → is_retrying (s.state r) ≡ true → own_flow plan r ≡ Some g → holds plan g b ≡ true
    → r ≢ b → is_settled (s.state b) ≡ true

-- the seven; what is before a region is done until the flow is REVERTED
pub record Facts (plan : Outline) (s : Snapshot) : Type 0 where
  pub order : IsInOrder plan s
  pub whole_marks : HasWholeMarks plan s
  pub open_atom : HasOpenAtoms plan s
  pub after_region : IsSettledAfter plan s
  pub before_region : flow_is_reverted s.flow ≡ false → IsDoneBefore plan s
  pub undone_by_mark : IsUndoneByMark plan s
  pub alone_retrying : IsAloneRetrying plan s

-- ---- no run gets stuck

-- an atom that a hand has in flight
pub record InFlight (plan : Outline) (s : Snapshot) : Type 0 where
  pub number : ℕ
  pub below : number < count plan
  pub flying : is_idle s number ≡ false

-- ---- completed reversion

-- whether an atom was started since it was last PENDING, where it enters this state
abbrev pub started_in : AtomState → Bool → Bool
started_in atom.Pending before = false
started_in atom.Running before = true
started_in state before = before

-- the same of atom a after an entry
abbrev pub started_after : What → ℕ → Bool → Bool
started_after (what.Atom entered state held) a before = if nat_eq entered a then started_in state before else before
started_after (what.Flow state) a before = before
started_after (what.Resolve named resolved) a before = before
started_after (what.Restart again) a before = before

-- a RUNNING entry of atom a stands after its last PENDING entry
abbrev pub was_started : List Entry → ℕ → Bool
was_started [] a = false
was_started (e ∷ past) a = started_after e.what a (was_started past a)

-- each REVERTING entry stands where all that is after its atom was settled
abbrev pub HasOrderlyReverts : Outline → List Entry → Type 0
HasOrderlyReverts plan [] = Unit {0}
HasOrderlyReverts plan (e ∷ past) =
    ((a b : ℕ) → enters_by is_reverting a e.what ≡ true → is_before plan a b ≡ true
    → is_settled (state_of past b) ≡ true)
    × HasOrderlyReverts plan past

-- a flow that is a region
pub record InForce (plan : Outline) (s : Snapshot) : Type 0 where
  pub flow : ℕ
  pub region : is_region plan s flow ≡ true

-- each atom that a region holds is settled
abbrev pub IsSettledWithin : Outline → List Entry → Type 0
IsSettledWithin plan past = (g a : ℕ) → is_region plan (snapshot plan past) g ≡ true → holds plan g a ≡ true
    → is_settled (state_of past a) ≡ true

-- each that was started since it was last PENDING is REVERTED
abbrev pub IsUndoneWithin : Outline → List Entry → Type 0
IsUndoneWithin plan past = (g a : ℕ) → is_region plan (snapshot plan past) g ≡ true → holds plan g a ≡ true
    → was_started past a ≡ true → state_of past a ≡ atom.Reverted

-- a region is in force, what was started in the regions is undone, and each atom was reverted after all that is after
-- it
pub record CompletedReversion (plan : Outline) (past : List Entry) : Type 0 where
  pub region : InForce plan (snapshot plan past)
  pub settled : IsSettledWithin plan past
  pub reverted : IsUndoneWithin plan past
  pub orderly : HasOrderlyReverts plan past
