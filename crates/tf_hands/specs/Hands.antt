-- What each hand has in flight, and what it was asked for.
use Rattle.std.specs.Prelude.{◌≡◌, ℕ, Bool, true, ◌||◌, Option, Some, if◌then◌else◌, ◌<◌, List, [], ◌∷◌, ◌++◌, false, not, ◌&&◌, None, nat_eq}
use Rattle.tf_states.specs.declared.record.Entry.{Entry}
use Rattle.tf_states.specs.declared.record.Payload.TheVariants as payload
use Rattle.tf_states.specs.declared.record.What.{What}
use Rattle.tf_states.specs.declared.record.What.TheVariants as what
use Rattle.tf_states.specs.declared.state.AtomState.{AtomState}
use Rattle.tf_states.specs.declared.state.AtomState.TheVariants as atom
use Rattle.tf_actions.specs.declared.outcomes.Action.{Action}
use Rattle.tf_actions.specs.declared.outcomes.Action.TheVariants as action
use Rattle.tf_actions.specs.declared.outcomes.Outcome.{Outcome}
use Rattle.tf_actions.specs.declared.outcomes.Outcome.TheVariants as outcome
use Rattle.tf_numbers.specs.Numbers.{first_below, is_number}
use Rattle.tf_model.specs.Forced.{enters}
use Rattle.tf_model.specs.Plan.{Outline, count, is_task}
use Rattle.tf_model.specs.History.{Snapshot, is_at_work, flow_runs, flow_suspends, state_after, snapshot, state_of, hand_of}
use Rattle.tf_model.specs.Steps.{is_hand}
use Rattle.tf_hands.specs.declared.starts.Start.{Start}
use Rattle.std.specs.Option.{option_to_list}
use Rattle.tf_states.specs.declared.state.FlowState.TheVariants as flow
use Rattle.tf_actions.specs.declared.orders.Order.{Order}
use Rattle.tf_model.specs.Scope.{order_of, order_at}

-- ---- which task a hand has in flight, the entries with which a task is taken up and ended, and what holds of what is in flight

-- the hand has a in flight
abbrev pub is_with : Snapshot → ℕ → ℕ → Bool
is_with s hand a = is_number (s.hand a) hand

-- the task that the hand has in flight
abbrev pub task_of : Outline → Snapshot → ℕ → Option ℕ
task_of plan s hand = first_below (count plan) (is_with s hand)

-- the state that a task enters as this action begins
abbrev pub begun : Action → AtomState
begun action.Execute = atom.Running
begun action.Revert = atom.Reverting

-- the entry with which a task is taken up
abbrev pub start_entry : Start → What
start_entry start = if start.restart then what.Restart start.atom else enters start.atom (begun start.action)

-- what is done with a task in this state that is taken up: it is executed where it is PENDING or RUNNING
abbrev pub action_in : AtomState → Action
action_in atom.Pending = action.Execute
action_in atom.Running = action.Execute
action_in state = action.Revert

-- the end of task a that was in this state, with an outcome: RUNNING ends SUCCESS or FAILURE, REVERTING
-- ends REVERTED or REVERT_FAILURE
abbrev pub ended_from : ℕ → AtomState → Outcome → What
ended_from a atom.Running (outcome.Gave result) = what.Atom a atom.Success (payload.Value result)
ended_from a atom.Running (outcome.Failed fault) = what.Atom a atom.Failure (payload.Fault fault)
ended_from a state (outcome.Gave result) = what.Atom a atom.Reverted payload.Empty
ended_from a state (outcome.Failed fault) = what.Atom a atom.RevertFailure (payload.Fault fault)

-- the end of a task, by the hand that has it in flight
abbrev pub end_by : Snapshot → ℕ → Outcome → ℕ → Entry
end_by s hand result a = record { hand = hand; what = ended_from a (s.state a) result }

-- a hand has a in flight: it is numbered as a hand, a is a task at work, and the flow is RUNNING or
-- SUSPENDING
pub record Busy (plan : Outline) (s : Snapshot) (a hand : ℕ) : Type 0 where
  pub numbered : is_hand hand ≡ true
  pub task : is_task plan a ≡ true
  pub at_work : is_at_work (s.state a) ≡ true
  pub goes : flow_runs s.flow || flow_suspends s.flow ≡ true

-- what is in flight is at work
pub record FlightFacts (plan : Outline) (s : Snapshot) : Type 0 where
  pub busy : (a hand : ℕ) → s.hand a ≡ Some hand → Busy plan s a hand

-- ---- what each hand has in flight, and what it was asked for

-- ---- what is recorded

-- what a hand records
abbrev pub by_hand : ℕ → What → Entry
by_hand recorder recorded = record { hand = recorder; what = recorded }

-- a task that enters this state has ended: it was executed or reverted, or failed to be
abbrev pub is_over : AtomState → Bool
is_over atom.Success = true
is_over atom.Failure = true
is_over atom.Reverted = true
is_over atom.RevertFailure = true
is_over state = false

-- what is recorded ends no task
abbrev pub is_no_end : Outline → What → Bool
is_no_end plan (what.Atom a state held) = not (is_over state && is_task plan a)
is_no_end plan (what.Flow state) = true
is_no_end plan (what.Resolve named resolved) = true
is_no_end plan (what.Restart again) = true

-- what is recorded is of the flow
abbrev pub is_of_flow : What → Bool
is_of_flow (what.Flow state) = true
is_of_flow (what.Atom a state held) = false
is_of_flow (what.Resolve named resolved) = false
is_of_flow (what.Restart again) = false

-- the flow enters RESUMING
abbrev pub is_resuming : What → Bool
is_resuming (what.Flow flow.Resuming) = true
is_resuming w = false

-- the entry is another hand's, and isn't RESUMING
abbrev pub is_by_other : ℕ → Entry → Bool
is_by_other hand e = not (nat_eq e.hand hand) && not (is_resuming e.what)

-- the task that is taken up: it enters RUNNING or REVERTING, or is restarted
abbrev pub takes_task : Outline → What → Option ℕ
takes_task plan (what.Atom a state held) = if is_task plan a && is_at_work state then Some a else None
takes_task plan (what.Restart again) = Some again
takes_task plan (what.Flow state) = None
takes_task plan (what.Resolve named resolved) = None

-- ---- orders

-- what is asked of a task that is at work: to execute it in RUNNING, else to revert it
abbrev pub asked_in : AtomState → Action
asked_in atom.Running = action.Execute
asked_in state = action.Revert

-- what is asked of task a that is taken up: it is in its new state then, or in the one in which it is restarted
abbrev pub action_of : Snapshot → What → ℕ → Action
action_of s w a = asked_in (state_after w a (s.state a))

-- the order for the task that is taken up at this moment, where one is
abbrev pub order_for : Outline → Snapshot → What → Option ℕ → Option Order
order_for plan s w None = None
order_for plan s w (Some a) = order_of plan s a (action_of s w a)

-- the order of an entry that takes a task up
abbrev pub asked_by : Outline → List Entry → Entry → Option Order
asked_by plan past e = order_for plan (snapshot plan past) e.what (takes_task plan e.what)

-- the order of an entry that takes a task up and carries the hand
abbrev pub asked_of : Outline → ℕ → List Entry → Entry → List Order
asked_of plan hand past e = if nat_eq e.hand hand then option_to_list (asked_by plan past e) else []

-- the orders of the starts and restarts that carry the hand, the oldest first
abbrev pub orders : Outline → ℕ → List Entry → List Order
orders plan hand [] = []
orders plan hand (e ∷ past) = orders plan hand past ++ asked_of plan hand past e

-- ---- hands

-- the hand has the order's task in flight; this is in the state that the order's action begins, and the order is that
-- of its last start
pub record HasOrder (plan : Outline) (past : List Entry) (hand : ℕ) (order : Order) : Type 0 where
  pub held : hand_of plan past order.atom ≡ Some hand
  pub below : order.atom < count plan
  pub task : is_task plan order.atom ≡ true
  pub works : state_of past order.atom ≡ begun order.action
  pub asked : order_at plan past order.atom order.action ≡ Some order

-- all that is in flight is with this hand
abbrev pub IsAlone : Outline → List Entry → ℕ → Type 0
IsAlone plan past hand = (a other : ℕ) → a < count plan → hand_of plan past a ≡ Some other → other ≡ hand
