-- What a history means: the states of the atoms and of the flow, their results, and what their views show.
use Rattle.std.specs.Prelude.{Bool, true, false, ℕ, ◌+◌, ◌&&◌, Option, Some, None, if◌then◌else◌, nat_eq, List, [], ◌∷◌, ◌≡◌, slice_get}
use Rattle.tf_states.specs.declared.state.AtomState.{AtomState}
use Rattle.tf_states.specs.declared.state.AtomState.TheVariants as atom
use Rattle.tf_states.specs.declared.state.FlowState.{FlowState}
use Rattle.tf_states.specs.declared.state.FlowState.TheVariants as flow
use Rattle.tf_states.specs.declared.record.Entry.{Entry}
use Rattle.tf_states.specs.declared.record.Kind.{Kind}
use Rattle.tf_states.specs.declared.record.Kind.TheVariants as kind
use Rattle.tf_states.specs.declared.record.Payload.{Payload}
use Rattle.tf_states.specs.declared.record.What.{What}
use Rattle.tf_states.specs.declared.record.What.TheVariants as what
use Rattle.tf_numbers.specs.Numbers.{is_number}
use Rattle.tf_model.specs.Plan.{Outline, holds, is_task, is_retry, own_flow}
use Rattle.tf_states.specs.declared.record.Payload.TheVariants as payload
use Rattle.tf_states.specs.declared.record.AtomView.{AtomView}
use Rattle.tf_values.specs.declared.value.Val.{Val}

-- ---- tests of the states of atoms and of the flow; one that is named by a state is true of it alone

abbrev pub is_pending : AtomState → Bool
is_pending atom.Pending = true
is_pending state = false

abbrev pub is_running : AtomState → Bool
is_running atom.Running = true
is_running state = false

abbrev pub is_success : AtomState → Bool
is_success atom.Success = true
is_success state = false

abbrev pub is_failure : AtomState → Bool
is_failure atom.Failure = true
is_failure state = false

abbrev pub is_reverting : AtomState → Bool
is_reverting atom.Reverting = true
is_reverting state = false

abbrev pub is_revert_failure : AtomState → Bool
is_revert_failure atom.RevertFailure = true
is_revert_failure state = false

abbrev pub is_ignored : AtomState → Bool
is_ignored atom.Ignore = true
is_ignored state = false

abbrev pub is_retrying : AtomState → Bool
is_retrying atom.Retrying = true
is_retrying state = false

-- done with, so that what is after it may run: SUCCESS or IGNORE
abbrev pub is_done : AtomState → Bool
is_done atom.Success = true
is_done atom.Ignore = true
is_done state = false

-- with nothing to undo: PENDING, REVERTED or IGNORE
abbrev pub is_settled : AtomState → Bool
is_settled atom.Pending = true
is_settled atom.Reverted = true
is_settled atom.Ignore = true
is_settled state = false

-- executed, to a result or a failure
abbrev pub is_executed : AtomState → Bool
is_executed atom.Success = true
is_executed atom.Failure = true
is_executed state = false

-- to be put back to PENDING when it is to run anew: REVERTED or IGNORE
abbrev pub is_put_back : AtomState → Bool
is_put_back atom.Reverted = true
is_put_back atom.Ignore = true
is_put_back state = false

abbrev pub flow_runs : FlowState → Bool
flow_runs flow.Running = true
flow_runs state = false

abbrev pub flow_suspends : FlowState → Bool
flow_suspends flow.Suspending = true
flow_suspends state = false

abbrev pub flow_is_reverted : FlowState → Bool
flow_is_reverted flow.Reverted = true
flow_is_reverted state = false

-- ---- what the rules of a run read of a history, and how one entry changes it

-- what a failure was resolved to: a flow by its number, and a kind
pub record Resolve : Type 0 where
  pub flow : ℕ
  pub kind : Kind

-- all that the rules read: of each atom, by its number, its state, its payload, the hand that has it in
-- flight, its mark with the flow and the kind of the resolve that it comes from (None is EXECUTE) and its
-- attempts; and the flow's state
pub record Snapshot : Type 0 where
  pub state : ℕ → AtomState
  pub payload : ℕ → Payload
  pub hand : ℕ → Option ℕ
  pub mark : ℕ → Option Resolve
  pub attempts : ℕ → ℕ
  pub flow : FlowState

-- the state of atom a after an entry
abbrev pub state_after : What → ℕ → AtomState → AtomState
state_after (what.Atom entered state held) a before = if nat_eq entered a then state else before
state_after (what.Flow state) a before = before
state_after (what.Resolve named resolved) a before = before
state_after (what.Restart again) a before = before

-- a retry controller keeps its last value in RETRYING and in RUNNING after it
abbrev pub held_after : AtomState → Payload → AtomState → Payload → Payload
held_after atom.Retrying held was before = before
held_after atom.Running held atom.Retrying before = before
held_after state held was before = held

-- the payload of atom a after an entry, where the atom was in that state: that of its last entry
abbrev pub payload_after : What → ℕ → AtomState → Payload → Payload
payload_after (what.Atom entered state held) a was before =
    if nat_eq entered a then held_after state held was before else before
payload_after (what.Flow state) a was before = before
payload_after (what.Resolve named resolved) a was before = before
payload_after (what.Restart again) a was before = before

-- a task in this state is at work
abbrev pub is_at_work : AtomState → Bool
is_at_work atom.Running = true
is_at_work atom.Reverting = true
is_at_work state = false

-- the hand that has atom a in flight after an entry of a hand: the one that started or restarted the task,
-- until its end, and none after the flow entered RESUMING
abbrev pub hand_after : Outline → ℕ → What → ℕ → Option ℕ → Option ℕ
hand_after plan hand (what.Atom entered state held) a before =
    if nat_eq entered a then (if is_task plan a && is_at_work state then Some hand else None) else before
hand_after plan hand (what.Restart again) a before = if nat_eq again a then Some hand else before
hand_after plan hand (what.Flow flow.Resuming) a before = None
hand_after plan hand (what.Flow state) a before = before
hand_after plan hand (what.Resolve named resolved) a before = before

-- the kind is RETRY
abbrev pub is_again : Kind → Bool
is_again kind.Retry = true
is_again kind.Revert = false
is_again kind.RevertAll = false

-- the mark comes from a resolve of this flow to run it again
abbrev pub is_retry_of : Option ℕ → Resolve → Bool
is_retry_of own mark = is_again mark.kind && is_number own mark.flow

-- the mark after a retry controller of a flow began another attempt
abbrev pub begun_again : Option ℕ → Option Resolve → Option Resolve
begun_again own None = None
begun_again own (Some mark) = if is_retry_of own mark then None else Some mark

-- the mark of atom a after an entry: a resolve marks all that its flow holds; a retry controller that
-- enters RUNNING clears the marks of its own flow's resolve to run again; and a flow that becomes PENDING
-- clears all marks
unfoldable pub mark_after : Outline → What → ℕ → Option Resolve → Option Resolve
mark_after plan (what.Resolve named resolved) a before =
    if holds plan named a then Some (record { flow = named; kind = resolved }) else before
mark_after plan (what.Atom entered atom.Running held) a before =
    if is_retry plan entered then begun_again (own_flow plan entered) before else before
mark_after plan (what.Atom entered state held) a before = before
mark_after plan (what.Flow flow.Pending) a before = None
mark_after plan (what.Flow state) a before = before
mark_after plan (what.Restart again) a before = before

-- an atom's attempts after it entered a state: none where it is PENDING, and one more at each SUCCESS
abbrev pub attempts_in : AtomState → ℕ → ℕ
attempts_in atom.Pending before = 0
attempts_in atom.Success before = before + 1
attempts_in state before = before

-- the attempts of atom a after an entry
abbrev pub attempts_after : What → ℕ → ℕ → ℕ
attempts_after (what.Atom entered state held) a before = if nat_eq entered a then attempts_in state before else before
attempts_after (what.Flow state) a before = before
attempts_after (what.Resolve named resolved) a before = before
attempts_after (what.Restart again) a before = before

-- the flow's state after an entry
abbrev pub flow_after : What → FlowState → FlowState
flow_after (what.Atom entered state held) before = before
flow_after (what.Flow state) before = state
flow_after (what.Resolve named resolved) before = before
flow_after (what.Restart again) before = before

-- the snapshot one entry later
unfoldable pub later : Outline → Entry → Snapshot → Snapshot
later plan e s = record {
  state = λ a. state_after e.what a (s.state a);
  payload = λ a. payload_after e.what a (s.state a) (s.payload a);
  hand = λ a. hand_after plan e.hand e.what a (s.hand a);
  mark = λ a. mark_after plan e.what a (s.mark a);
  attempts = λ a. attempts_after e.what a (s.attempts a);
  flow = flow_after e.what s.flow;
}

-- ---- what a history means
-- It is a list of entries, the newest first, and each meaning looks backwards in it.

-- the state of an atom: that of its last entry, and PENDING where it has none
abbrev pub state_of : List Entry → ℕ → AtomState
state_of [] a = atom.Pending
state_of (e ∷ past) a = state_after e.what a (state_of past a)

-- the flow's state: that of its last entry, and PENDING where it has none
abbrev pub flow_of : List Entry → FlowState
flow_of [] = flow.Pending
flow_of (e ∷ past) = flow_after e.what (flow_of past)

-- what an atom's last entry carries; a retry controller keeps its last value while it begins again
abbrev pub payload_of : List Entry → ℕ → Payload
payload_of [] a = payload.Empty
payload_of (e ∷ past) a = payload_after e.what a (state_of past a) (payload_of past a)

-- the hand that has a task in flight: the one that started or restarted it after the last RESUMING
abbrev pub hand_of : Outline → List Entry → ℕ → Option ℕ
hand_of plan [] a = None
hand_of plan (e ∷ past) a = hand_after plan e.hand e.what a (hand_of plan past a)

-- an atom's mark, with the flow and the kind of the resolve that it comes from; None is EXECUTE
abbrev pub mark_of : Outline → List Entry → ℕ → Option Resolve
mark_of plan [] a = None
mark_of plan (e ∷ past) a = mark_after plan e.what a (mark_of plan past a)

-- an atom's attempts: its SUCCESS entries after its last PENDING entry
abbrev pub attempts_of : List Entry → ℕ → ℕ
attempts_of [] a = 0
attempts_of (e ∷ past) a = attempts_after e.what a (attempts_of past a)

-- what the rules read of a history
unfoldable pub snapshot : Outline → List Entry → Snapshot
snapshot plan past = record {
  state = state_of past;
  payload = payload_of past;
  hand = hand_of plan past;
  mark = mark_of plan past;
  attempts = attempts_of past;
  flow = flow_of past;
}

-- ---- which moment of a run the views of its atoms show

-- the state in a view; an atom without one is PENDING
abbrev pub state_in : Option AtomView → AtomState
state_in None = atom.Pending
state_in (Some view) = view.state

-- the payload in a view, and none where there is no view
abbrev pub payload_in : Option AtomView → Payload
payload_in None = payload.Empty
payload_in (Some view) = view.payload

-- the views show the state and the payload of each atom
pub record Shows (views : List AtomView) (s : Snapshot) : Type 0 where
  pub state : (a : ℕ) → s.state a ≡ state_in (slice_get views a)
  pub payload : (a : ℕ) → s.payload a ≡ payload_in (slice_get views a)

-- the result that a payload carries
abbrev pub result_in : Payload → Option Val
result_in (payload.Value result) = Some result
result_in payload.Empty = None
result_in (payload.Fault fault) = None

-- the result of atom a, where it is SUCCESS
abbrev pub result_of : Snapshot → ℕ → Option Val
result_of s a = if is_success (s.state a) then result_in (s.payload a) else None
