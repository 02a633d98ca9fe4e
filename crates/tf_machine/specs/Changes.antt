-- The tables before a run, and how they change.
use Rattle.std.specs.Prelude.{◌≡◌, ℕ, ◌<◌, zero, suc, List, [], ◌∷◌, ◌++◌, length, Bool, true, false, ◌&&◌, Option, Some, None, option_map, slice_get, if◌then◌else◌}
use Rattle.tf_states.specs.declared.record.AtomView.{AtomView}
use Rattle.tf_states.specs.declared.record.Payload.{Payload}
use Rattle.tf_states.specs.declared.record.Payload.TheVariants as payload
use Rattle.tf_states.specs.declared.state.AtomState.{AtomState}
use Rattle.tf_states.specs.declared.state.AtomState.TheVariants as atom
use Rattle.tf_states.specs.declared.state.FlowState.{FlowState}
use Rattle.tf_states.specs.declared.state.FlowState.TheVariants as flow
use Rattle.tf_machine.specs.declared.tables.Change.{Change}
use Rattle.tf_machine.specs.declared.tables.Change.TheVariants as change
use Rattle.tf_machine.specs.declared.tables.Mark.{Mark}
use Rattle.tf_machine.specs.declared.tables.Place.{Place}
use Rattle.tf_model.specs.Forced.{is_marked_again}
use Rattle.tf_model.specs.Plan.{Outline, count, holds, is_retry, own_flow}
use Rattle.tf_model.specs.History.{held_after, attempts_in, is_running}
use Rattle.tf_machine.specs.declared.compiled.Span.{Span}
use Rattle.tf_machine.specs.Compiled.{IsInSpan}
use Rattle.tf_machine.specs.Tables.{resolve_of}

-- the view of an atom before a run
abbrev pub first_view : AtomView
first_view = record { state = atom.Pending; payload = payload.Empty }

-- what else is kept of it
abbrev pub first_place : Place
first_place = record { mark = None; hand = None; attempts = 0 }

-- the views of n atoms before a run
abbrev pub first_views : ℕ → List AtomView
first_views zero = []
first_views (suc n) = first_views n ++ first_view ∷ []

-- their places
abbrev pub first_places : ℕ → List Place
first_places zero = []
first_places (suc n) = first_places n ++ first_place ∷ []

-- the view of an atom after it entered a state
abbrev pub entered_view : AtomState → Payload → AtomView → AtomView
entered_view state held view = record { state = state; payload = held_after state held view.state view.payload }

-- its place then
abbrev pub entered_place : AtomState → Option ℕ → Place → Place
entered_place state hand place = record { mark = place.mark; hand = hand; attempts = attempts_in state place.attempts }

-- a place with another mark
abbrev pub marked : Option Mark → Place → Place
marked mark place = record { mark = mark; hand = place.hand; attempts = place.attempts }

-- a place with nothing in flight
abbrev pub released : Place → Place
released place = record { mark = place.mark; hand = None; attempts = place.attempts }

abbrev pub flow_resumes : FlowState → Bool
flow_resumes flow.Resuming = true
flow_resumes state = false

-- the flow is PENDING
abbrev pub flow_rests : FlowState → Bool
flow_rests flow.Pending = true
flow_rests state = false

-- a place after a retry controller of this flow began another attempt: a mark of that flow's resolve to run again is
-- gone
abbrev pub begun : Option ℕ → Place → Place
begun own place = if is_marked_again own (option_map resolve_of place.mark) then marked None place else place

-- what becomes of the place of atom a
abbrev pub changed : Outline → Change → ℕ → Place → Place
changed plan change.Release a place = released place
changed plan change.Unmark a place = marked None place
changed plan (change.Begin own) a place = begun own place
changed plan (change.Resolve mark) a place = if holds plan mark.flow a then marked (Some mark) place else place

-- the mark of an atom's place is one of a flow that holds the atom
abbrev pub IsMarkHeld : Outline → ℕ → Place → Type 0
IsMarkHeld plan a place = (m : Mark) → place.mark ≡ Some m → holds plan m.flow a ≡ true

-- so it is of each atom
abbrev pub ArePlacesHeld : Outline → List Place → Type 0
ArePlacesHeld plan places = (a : ℕ) (place : Place) → slice_get places a ≡ Some place → IsMarkHeld plan a place

-- a change makes nothing of the place of an atom outside a span
abbrev pub Stays : Outline → Change → Span → Type 0
Stays plan change span =
    (a : ℕ) (place : Place) → a < count plan → IsMarkHeld plan a place → (IsInSpan span a → ⊥)
    → changed plan change a place ≡ place

-- the place of each atom became what a change makes of it
pub record AreChanged (change : ℕ → Place → Place) (old new : List Place) : Type 0 where
  pub as_many : length new ≡ length old
  pub each : (a : ℕ) → slice_get new a ≡ option_map (change a) (slice_get old a)

-- a place after the flow entered a state: in RESUMING nothing is in flight, and in PENDING no mark is left
abbrev pub turned : FlowState → Place → Place
turned state place =
    if flow_resumes state then released place else if flow_rests state then marked None place else place

-- a place after an atom entered a state: where a retry controller begins to run, marks of its own flow are gone
abbrev pub cleared : Outline → ℕ → AtomState → Place → Place
cleared plan entered state place =
    if is_running state && is_retry plan entered then begun (own_flow plan entered) place else place
