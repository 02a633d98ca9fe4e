-- What the laws of legal histories speak of.
use Rattle.std.specs.Prelude.{not, ◌≡◌, ◌⊎◌, ◌<◌, length, map, ◌++◌, reverse, filter_map, Some, None, Option, ℕ, List, [], ◌∷◌, Bool, true, false, ◌&&◌, ◌||◌, if◌then◌else◌, nat_eq}
use Rattle.std.specs.List.{list_all}
use Rattle.tf_numbers.specs.Numbers.{has_number, has_pair}
use Rattle.tf_states.specs.declared.record.Entry.{Entry}
use Rattle.tf_states.specs.declared.record.Payload.{Payload}
use Rattle.tf_states.specs.declared.record.Payload.TheVariants as payload
use Rattle.tf_states.specs.declared.record.What.{What}
use Rattle.tf_states.specs.declared.record.What.TheVariants as what
use Rattle.tf_states.specs.declared.state.AtomState.{AtomState}
use Rattle.tf_states.specs.declared.state.AtomState.TheVariants as atom
use Rattle.tf_states.specs.declared.state.FlowState.{FlowState}
use Rattle.tf_states.specs.declared.state.FlowState.TheVariants as flow
use Rattle.tf_states.specs.Transitions.{task_may, retry_may, flow_may}
use Rattle.tf_model.specs.Before.{Flow, item_before, item_name}
use Rattle.tf_model.specs.Plan.{Outline, path, holds, is_retry, is_task, own_flow}
use Rattle.tf_model.specs.Readiness.{home, last_item}
use Rattle.tf_links.specs.Graphs.{shortest_cycle, Chain}
use Rattle.tf_model.specs.History.{is_pending, is_success, Resolve, Snapshot, is_retry_of, snapshot, flow_of}
use Rattle.tf_model.specs.Steps.{has_ended, entering}

-- the pair is allowed: of a retry controller, or else of a task
abbrev pub atom_may : Bool → AtomState → AtomState → Bool
atom_may is_controller from to = if is_controller then retry_may from to else task_may from to

-- what is recorded takes an atom or the flow from its state to one that its kind may go to
abbrev pub is_allowed : Outline → Snapshot → What → Bool
is_allowed plan s (what.Atom a state held) = atom_may (is_retry plan a) (s.state a) state
is_allowed plan s (what.Flow state) = flow_may s.flow state
is_allowed plan s (what.Resolve named resolved) = true
is_allowed plan s (what.Restart again) = true

-- so does each entry of a history
abbrev pub HasAllowed : Outline → List Entry → Type 0
HasAllowed plan [] = Unit {0}
HasAllowed plan (e ∷ past) = (is_allowed plan (snapshot plan past) e.what ≡ true) × HasAllowed plan past

-- atom a enters a state that passes the test
abbrev pub enters_by : (AtomState → Bool) → ℕ → What → Bool
enters_by test a (what.Atom entered state held) = nat_eq entered a && test state
enters_by test a (what.Flow state) = false
enters_by test a (what.Resolve named resolved) = false
enters_by test a (what.Restart again) = false

-- one of the entries puts a back to PENDING
abbrev pub puts_back : List Entry → ℕ → Bool
puts_back [] a = false
puts_back (e ∷ past) a = enters_by is_pending a e.what || puts_back past a

-- what the last SUCCESS entry of a carries, after this event
abbrev pub success_payload : What → ℕ → Payload → Payload
success_payload (what.Atom entered state held) a before = if nat_eq entered a && is_success state then held else before
success_payload (what.Flow state) a before = before
success_payload (what.Resolve named resolved) a before = before
success_payload (what.Restart again) a before = before

-- what the last SUCCESS entry of an atom carries
abbrev pub last_success : List Entry → ℕ → Payload
last_success [] a = payload.Empty
last_success (e ∷ past) a = success_payload e.what a (last_success past a)

-- the state that the flow enters, where it does
abbrev pub flow_state_in : What → Option FlowState
flow_state_in (what.Flow state) = Some state
flow_state_in (what.Atom a state held) = None
flow_state_in (what.Resolve named resolved) = None
flow_state_in (what.Restart again) = None

-- the state that an entry of the flow enters
abbrev pub flow_state_of : Entry → Option FlowState
flow_state_of e = flow_state_in e.what

-- the states that the flow enters by the entries, in their order
abbrev pub flow_states : List Entry → List FlowState
flow_states entries = filter_map flow_state_of entries

-- what one run records of the flow after it entered, the newest first: nothing, or SUSPENDING
abbrev pub IsGoing : List FlowState → Type 0
IsGoing states = (states ≡ []) ⊎ (states ≡ flow.Suspending ∷ [])

-- and with the state in which it stopped: SUCCESS, FAILURE or REVERTED, with or without SUSPENDING before,
-- or SUSPENDED after SUSPENDING
abbrev pub IsStopped : FlowState → List FlowState → Type 0
IsStopped last states = ((states ≡ last ∷ []) × (has_ended last ≡ true)) ⊎ (states ≡ last ∷ flow.Suspending ∷ [])

-- a run recorded the entries with which it enters, and then others of which the last stopped it
pub record StoppedAfter (before entries : List Entry) (last : FlowState) : Type 0 where
  pub newer : List Entry
  pub recorded : entries ≡ newer ++ reverse (entering (flow_of before))
  pub stopped : IsStopped last (flow_states newer)

-- a run that stopped recorded nothing, where the flow had ended, or that
abbrev pub IsWholeRun : List Entry → List Entry → FlowState → Type 0
IsWholeRun before entries last =
    ((has_ended (flow_of before) ≡ true) × (entries ≡ [])) ⊎ StoppedAfter before entries last

-- of the items of each flow, one that comes before a second that comes before a third comes before the
-- third, and none comes before itself
pub record AreOrdered (flows : List Flow) : Type 0 where
  pub transitive : (g u v w : ℕ) → item_before flows g u v ≡ true → item_before flows g v w ≡ true
      → item_before flows g u w ≡ true
  pub irreflexive : (g u : ℕ) → item_before flows g u u ≡ false

-- the flow's name
abbrev pub name_of_flow : Flow → List ℕ
name_of_flow f = f.place.name

-- y isn't after m, by this order
abbrev pub is_not_after : (ℕ → ℕ → Bool) → ℕ → ℕ → Bool
is_not_after less m y = not (less m y)

-- one of the atoms that none of them is after, by this order
pub record Extreme (less : ℕ → ℕ → Bool) (atoms : List ℕ) : Type 0 where
  pub atom : ℕ
  pub among : has_number atoms atom ≡ true
  pub extreme : list_all (is_not_after less atom) atoms ≡ true

-- what is recorded resolves to a flow that holds a
abbrev pub resolves_over : Outline → ℕ → What → Bool
resolves_over plan a (what.Resolve named resolved) = holds plan named a
resolves_over plan a (what.Atom entered state held) = false
resolves_over plan a (what.Flow state) = false
resolves_over plan a (what.Restart again) = false

-- the same of an entry
abbrev pub resolves_atom : Outline → ℕ → Entry → Bool
resolves_atom plan a e = resolves_over plan a e.what

-- what is recorded ends a mark: the flow becomes PENDING; or the mark's kind is RETRY, and the retry controller
-- of the flow that it comes from enters RUNNING
abbrev pub ends_mark : Outline → Resolve → What → Bool
ends_mark plan mark (what.Flow flow.Pending) = true
ends_mark plan mark (what.Flow state) = false
ends_mark plan mark (what.Atom entered atom.Running held) =
    is_retry plan entered && is_retry_of (own_flow plan entered) mark
ends_mark plan mark (what.Atom entered state held) = false
ends_mark plan mark (what.Resolve named resolved) = false
ends_mark plan mark (what.Restart again) = false

-- the same of an entry
abbrev pub ends_mark_of : Outline → Resolve → Entry → Bool
ends_mark_of plan mark e = ends_mark plan mark e.what

-- a is a task and an item of v's own flow, and a link of that flow leads from v to it
pub record IsLinkedTask (plan : Outline) (v a : ℕ) : Type 0 where
  pub from : ℕ
  pub to : ℕ
  pub task : is_task plan a ≡ true
  pub same_flow : own_flow plan a ≡ own_flow plan v
  pub stands : last_item (path plan v) ≡ Some from
  pub led_to : last_item (path plan a) ≡ Some to
  pub linked : has_pair (home plan v).linked from to ≡ true

-- the names are those of the shortest cycle through an item that lies on one, and no item before it lies on one
pub record IsFirstCycle (f : Flow) (names : List (List ℕ)) : Type 0 where
  pub item : ℕ
  pub within : item < length f.place.items
  pub on : Chain f.linked item item
  pub first : (u : ℕ) → u < item → Chain f.linked u u → ⊥
  pub named : names ≡ map (item_name f.place) (shortest_cycle (length f.place.items) f.linked item)
