-- The tables of a machine, read as the snapshot that they show.
use Rattle.std.specs.Prelude.{ℕ, List, Option, Some, None, option_map, slice_get}
use Rattle.tf_states.specs.declared.record.AtomView.{AtomView}
use Rattle.tf_states.specs.declared.state.FlowState.{FlowState}
use Rattle.tf_machine.specs.declared.tables.Mark.{Mark}
use Rattle.tf_machine.specs.declared.tables.Place.{Place}
use Rattle.tf_machine.specs.declared.tables.Tables.{Tables}
use Rattle.tf_model.specs.History.{Resolve, Snapshot, state_in, payload_in}

-- the hand that a place tells
abbrev pub hand_in : Option Place → Option ℕ
hand_in None = None
hand_in (Some place) = place.hand

-- a mark that is kept, as the resolve that it comes from
abbrev pub resolve_of : Mark → Resolve
resolve_of mark = record { flow = mark.flow; kind = mark.kind }

-- the mark that a place tells
abbrev pub mark_in : Option Place → Option Resolve
mark_in None = None
mark_in (Some place) = option_map resolve_of place.mark

-- the attempts that a place tells
abbrev pub attempts_told : Option Place → ℕ
attempts_told None = 0
attempts_told (Some place) = place.attempts

-- what the tables show
abbrev pub shown_of : List AtomView → List Place → FlowState → Snapshot
shown_of views places state = record {
  state = λ a. state_in (slice_get views a);
  payload = λ a. payload_in (slice_get views a);
  hand = λ a. hand_in (slice_get places a);
  mark = λ a. mark_in (slice_get places a);
  attempts = λ a. attempts_told (slice_get places a);
  flow = state;
}

-- the same of the tables that the machine keeps
abbrev pub shown_by : Tables → Snapshot
shown_by tables = shown_of tables.views.items tables.places.items tables.flow
