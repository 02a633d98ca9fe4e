-- Which entry may follow a history, and what one run records.
use Rattle.std.specs.Prelude.{◌≡◌, ℕ, List, [], ◌∷◌, Bool, true, false, not, ◌&&◌, ◌||◌, Option, Some, None, option_map, is_none, nat_lt, if◌then◌else◌, ◌++◌, reverse}
use Rattle.tf_states.specs.declared.record.Entry.{Entry}
use Rattle.tf_states.specs.declared.record.What.{What}
use Rattle.tf_states.specs.declared.record.What.TheVariants as what
use Rattle.tf_states.specs.declared.record.Payload.{Payload}
use Rattle.tf_states.specs.declared.record.Payload.TheVariants as payload
use Rattle.tf_states.specs.declared.state.AtomState.{AtomState}
use Rattle.tf_states.specs.declared.state.AtomState.TheVariants as atom
use Rattle.tf_states.specs.declared.state.FlowState.{FlowState}
use Rattle.tf_states.specs.declared.state.FlowState.TheVariants as flow
use Rattle.tf_numbers.specs.Numbers.{all_below, first_below, is_number}
use Rattle.tf_model.specs.Plan.{Outline, count}
use Rattle.tf_model.specs.History.{Snapshot, snapshot, is_settled, is_put_back, flow_runs, flow_suspends, flow_is_reverted, flow_of}
use Rattle.tf_model.specs.Forced.{forced, enters, choice, end_of}
use Rattle.std.specs.List.{list_all}

-- ---- which entry may follow a history

-- the hand doesn't have a in flight
abbrev pub is_not_with : Snapshot → ℕ → ℕ → Bool
is_not_with s hand a = not (is_number (s.hand a) hand)

-- the hand has nothing in flight
unfoldable pub is_free : Outline → Snapshot → ℕ → Bool
is_free plan s hand = all_below (count plan) (is_not_with s hand)

-- a isn't in flight
abbrev pub is_idle : Snapshot → ℕ → Bool
is_idle s a = is_none (s.hand a)

-- nothing is in flight
unfoldable pub is_still : Outline → Snapshot → Bool
is_still plan s = all_below (count plan) (is_idle s)

-- a task in the first state may end in the second, with this payload: RUNNING with a result or a failure,
-- REVERTING with nothing or a failure
abbrev pub ends_as : AtomState → AtomState → Payload → Bool
ends_as atom.Running atom.Success (payload.Value result) = true
ends_as atom.Running atom.Failure (payload.Fault fault) = true
ends_as atom.Reverting atom.Reverted payload.Empty = true
ends_as atom.Reverting atom.RevertFailure (payload.Fault fault) = true
ends_as from to held = false

-- the hand ends a task that it has in flight, while the flow is RUNNING or SUSPENDING
unfoldable pub ends_task : Snapshot → ℕ → What → Bool
ends_task s hand (what.Atom a state held) =
    (flow_runs s.flow || flow_suspends s.flow) && (is_number (s.hand a) hand && ends_as (s.state a) state held)
ends_task s hand (what.Flow state) = false
ends_task s hand (what.Resolve named resolved) = false
ends_task s hand (what.Restart again) = false

-- the turns of the flow that nothing but its state allows: to RUNNING from PENDING and SUSPENDED, to
-- SUSPENDING from RUNNING, to RESUMING from RUNNING and SUSPENDING, and from there to SUSPENDED
abbrev pub may_turn : FlowState → FlowState → Bool
may_turn flow.Pending flow.Running = true
may_turn flow.Suspended flow.Running = true
may_turn flow.Running flow.Suspending = true
may_turn flow.Running flow.Resuming = true
may_turn flow.Suspending flow.Resuming = true
may_turn flow.Resuming flow.Suspended = true
may_turn from to = false

-- the entry is such a turn
abbrev pub turns_flow : FlowState → What → Bool
turns_flow from (what.Flow to) = may_turn from to
turns_flow from (what.Atom a state held) = false
turns_flow from (what.Resolve named resolved) = false
turns_flow from (what.Restart again) = false

-- the entry that records the end
abbrev pub end_entry : Outline → Snapshot → Option What
end_entry plan s = option_map what.Flow (end_of plan s)

-- in SUSPENDING nothing is in flight, and there is no end
unfoldable pub may_suspend : Outline → Snapshot → Bool
may_suspend plan s = flow_suspends s.flow && (is_still plan s && is_none (end_of plan s))

-- a is settled
abbrev pub is_settled_at : Snapshot → ℕ → Bool
is_settled_at s a = is_settled (s.state a)

-- a is REVERTED or IGNORE
abbrev pub is_put_back_at : Snapshot → ℕ → Bool
is_put_back_at s a = is_put_back (s.state a)

-- the atom becomes PENDING, or the flow where there is none
abbrev pub put_back_or_rest : Option ℕ → What
put_back_or_rest None = what.Flow flow.Pending
put_back_or_rest (Some a) = enters a atom.Pending

-- what a reset records next: in REVERTED, where every atom is settled, the first REVERTED or IGNORE atom
-- becomes PENDING, and where none is left the flow does
unfoldable pub reset : Outline → Snapshot → Option What
reset plan s =
    if flow_is_reverted s.flow && all_below (count plan) (is_settled_at s)
    then Some (put_back_or_rest (first_below (count plan) (is_put_back_at s)))
    else None

-- why an entry may follow, one constructor for each rule
pub data Rule (plan : Outline) (s : Snapshot) (e : Entry) : Type 0 where
  -- it is the forced one, by any hand
  by_force : forced plan s ≡ Some e.what → Rule plan s e
  -- a hand with nothing in flight takes up the first candidate
  by_choice : choice plan s ≡ Some e.what → is_free plan s e.hand ≡ true → Rule plan s e
  -- a hand ends the task that it has in flight
  by_end_of_task : ends_task s e.hand e.what ≡ true → Rule plan s e
  -- the flow turns to RUNNING, SUSPENDING or RESUMING, or from RESUMING to SUSPENDED
  by_turn : turns_flow s.flow e.what ≡ true → Rule plan s e
  -- the flow ends, where nothing is in flight
  by_end : end_entry plan s ≡ Some e.what → is_still plan s ≡ true → Rule plan s e
  -- the flow is suspended, where nothing is in flight and there is no end
  by_suspension : may_suspend plan s ≡ true → e.what ≡ what.Flow flow.Suspended → Rule plan s e
  -- a reverted flow is put back, one atom after another
  by_reset : reset plan s ≡ Some e.what → Rule plan s e

-- hands are numbered from 0 to 63
abbrev pub is_hand : ℕ → Bool
is_hand hand = nat_lt hand 64

-- the entry may follow: a hand records it, by one of the rules
pub record Step (plan : Outline) (s : Snapshot) (e : Entry) : Type 0 where
  pub hand : is_hand e.hand ≡ true
  pub rule : Rule plan s e

-- each entry may follow those before it; the newest is the first
abbrev pub LegalPast : Outline → List Entry → Type 0
LegalPast plan [] = Unit {0}
LegalPast plan (e ∷ past) = Step plan (snapshot plan past) e × LegalPast plan past

-- ---- what one run records

-- an entry of the flow, by hand 0
abbrev pub flow_entry : FlowState → Entry
flow_entry state = record { hand = 0; what = what.Flow state }

-- what a run records as it enters, the first entry first: from PENDING or SUSPENDED the flow is RUNNING;
-- a run that was interrupted is resumed and suspended before; and a flow that has ended isn't entered
abbrev pub entering : FlowState → List Entry
entering flow.Pending = flow_entry flow.Running ∷ []
entering flow.Suspended = flow_entry flow.Running ∷ []
entering flow.Running = flow_entry flow.Resuming ∷ flow_entry flow.Suspended ∷ flow_entry flow.Running ∷ []
entering flow.Suspending = flow_entry flow.Resuming ∷ flow_entry flow.Suspended ∷ flow_entry flow.Running ∷ []
entering flow.Resuming = flow_entry flow.Suspended ∷ flow_entry flow.Running ∷ []
entering flow.Success = []
entering flow.Failure = []
entering flow.Reverted = []

-- the flow has ended
abbrev pub has_ended : FlowState → Bool
has_ended flow.Success = true
has_ended flow.Failure = true
has_ended flow.Reverted = true
has_ended state = false

-- a run stops in this state: the flow has ended, or it is suspended
abbrev pub is_last : FlowState → Bool
is_last flow.Suspended = true
is_last state = has_ended state

-- what is recorded isn't of the flow, or begins to suspend it
abbrev pub is_inner : What → Bool
is_inner (what.Flow state) = flow_suspends state
is_inner (what.Atom a state held) = true
is_inner (what.Resolve named resolved) = true
is_inner (what.Restart again) = true

-- the same of an entry
abbrev pub is_inner_entry : Entry → Bool
is_inner_entry e = is_inner e.what

-- what one run records after a history, the newest entry first as in it, and the state in which it
-- stopped, or None where it was halted before that
pub data Session (plan : Outline) (before : List Entry) : List Entry → Option FlowState → Type 0 where
  -- the flow had ended already, and nothing is recorded
  already_ended : has_ended (flow_of before) ≡ true → LegalPast plan before
      → Session plan before [] (Some (flow_of before))
  -- it was halted while it entered, after some of the entries that it enters with
  entered : (some others : List Entry) → entering (flow_of before) ≡ some ++ others
      → LegalPast plan (reverse some ++ before)
      → Session plan before (reverse some) None
  -- it entered a flow that hadn't ended, and was halted
  halted : (inner : List Entry) → has_ended (flow_of before) ≡ false → list_all is_inner_entry inner ≡ true
      → LegalPast plan (inner ++ (reverse (entering (flow_of before)) ++ before))
      → Session plan before (inner ++ reverse (entering (flow_of before))) None
  -- it entered, and stopped in a last state
  whole : (hand : ℕ) (last : FlowState) (inner : List Entry) → is_last last ≡ true
      → list_all is_inner_entry inner ≡ true
      → has_ended (flow_of before) ≡ false
      → LegalPast plan
      (record { hand = hand; what = what.Flow last } ∷ (inner ++ (reverse (entering (flow_of before)) ++ before)))
      → Session plan before
      (record { hand = hand; what = what.Flow last } ∷ (inner ++ reverse (entering (flow_of before)))) (Some last)
