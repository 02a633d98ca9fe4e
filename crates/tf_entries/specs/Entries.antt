-- The byte form of an entry: the hand, and what it recorded behind a tag. Numbers are big-endian.
use Rattle.std.specs.Prelude.{◌≡◌, ℕ, ◌<◌, ◌^◌, List, [], ◌∷◌, ◌++◌, Bool, true, false, FitsSigned}
use Rattle.std.specs.Int.{to_be_bytes, cast_unsigned, w16, w32}
use Rattle.tf_values.specs.Scalars.{text_bytes}
use Rattle.tf_values.specs.Text.{is_name, is_text}
use Rattle.tf_values.specs.Value.{IsValue, byte_form}
use Rattle.tf_entries.specs.Plans.{name_bytes}
use Rattle.tf_states.specs.declared.record.Entry.{Entry}
use Rattle.tf_states.specs.declared.record.Failure.{Failure}
use Rattle.tf_states.specs.declared.record.Failure.TheVariants as failure
use Rattle.tf_states.specs.declared.record.Kind.{Kind}
use Rattle.tf_states.specs.declared.record.Kind.TheVariants as kind
use Rattle.tf_states.specs.declared.record.Payload.{Payload}
use Rattle.tf_states.specs.declared.record.Payload.TheVariants as payload
use Rattle.tf_states.specs.declared.record.What.{What}
use Rattle.tf_states.specs.declared.record.What.TheVariants as what
use Rattle.tf_states.specs.declared.state.AtomState.{AtomState}
use Rattle.tf_states.specs.declared.state.AtomState.TheVariants as atom
use Rattle.tf_states.specs.declared.state.FlowState.{FlowState}
use Rattle.tf_states.specs.declared.state.FlowState.TheVariants as flow

-- ---- bytes

-- the number of an atom's state
abbrev pub atom_state_byte : AtomState → ℕ
atom_state_byte atom.Pending = 0
atom_state_byte atom.Running = 1
atom_state_byte atom.Success = 2
atom_state_byte atom.Failure = 3
atom_state_byte atom.Reverting = 4
atom_state_byte atom.Reverted = 5
atom_state_byte atom.RevertFailure = 6
atom_state_byte atom.Ignore = 7
atom_state_byte atom.Retrying = 8

-- the number of a flow's state
abbrev pub flow_state_byte : FlowState → ℕ
flow_state_byte flow.Pending = 0
flow_state_byte flow.Running = 1
flow_state_byte flow.Success = 2
flow_state_byte flow.Failure = 3
flow_state_byte flow.Reverted = 4
flow_state_byte flow.Suspending = 5
flow_state_byte flow.Suspended = 6
flow_state_byte flow.Resuming = 7

-- the number of what a failure is resolved to
abbrev pub kind_byte : Kind → ℕ
kind_byte kind.Retry = 0
kind_byte kind.Revert = 1
kind_byte kind.RevertAll = 2

-- a failure: its tag, and the text, the name or the number that it has
abbrev pub failure_bytes : Failure → List ℕ
failure_bytes (failure.Raised text) = 0 ∷ text_bytes text
failure_bytes (failure.WrongKind name) = 1 ∷ name_bytes name
failure_bytes failure.Overflow = 2 ∷ []
failure_bytes failure.Range = 3 ∷ []
failure_bytes failure.TooLong = 4 ∷ []
failure_bytes (failure.Lookup name) = 5 ∷ name_bytes name
failure_bytes (failure.Exit status) = 6 ∷ to_be_bytes w32 (cast_unsigned w32 status)
failure_bytes failure.Spawn = 7 ∷ []
failure_bytes failure.NotText = 8 ∷ []
failure_bytes failure.Lost = 9 ∷ []
failure_bytes (failure.BadReply place) = 10 ∷ to_be_bytes w32 place
failure_bytes failure.Exhausted = 11 ∷ []

-- what follows a state: nothing, a value or a failure
abbrev pub payload_bytes : Payload → List ℕ
payload_bytes payload.Empty = []
payload_bytes (payload.Value value) = byte_form value
payload_bytes (payload.Fault fault) = failure_bytes fault

-- what was recorded: its tag, the number of an atom or a flow, a state or a kind, and a payload
abbrev pub what_bytes : What → List ℕ
what_bytes (what.Atom number state held) = 1 ∷ to_be_bytes w16 number ++ (atom_state_byte state ∷ payload_bytes held)
what_bytes (what.Flow state) = 2 ∷ flow_state_byte state ∷ []
what_bytes (what.Resolve number kind) = 3 ∷ to_be_bytes w16 number ++ (kind_byte kind ∷ [])
what_bytes (what.Restart number) = 4 ∷ to_be_bytes w16 number

-- an entry: its hand, and what it recorded
abbrev pub entry_bytes : Entry → List ℕ
entry_bytes entry = entry.hand ∷ what_bytes entry.what

-- ---- which entries there are

-- a payload is of the kind that the state names: a value at SUCCESS, a failure at FAILURE and
-- REVERT_FAILURE, and nothing at every other state
abbrev pub is_payload_of : AtomState → Payload → Bool
is_payload_of atom.Success (payload.Value value) = true
is_payload_of atom.Success other = false
is_payload_of atom.Failure (payload.Fault fault) = true
is_payload_of atom.Failure other = false
is_payload_of atom.RevertFailure (payload.Fault fault) = true
is_payload_of atom.RevertFailure other = false
is_payload_of state payload.Empty = true
is_payload_of state other = false

-- what was recorded has the payload that its state names
abbrev pub has_its_payload : What → Bool
has_its_payload (what.Atom number state held) = is_payload_of state held
has_its_payload (what.Flow state) = true
has_its_payload (what.Resolve number kind) = true
has_its_payload (what.Restart number) = true

-- a failure within the limits: its text is a text, its name a name, its number fits
abbrev pub IsFailure : Failure → Type 0
IsFailure (failure.Raised text) = is_text text ≡ true
IsFailure (failure.WrongKind name) = is_name name ≡ true
IsFailure failure.Overflow = Unit {0}
IsFailure failure.Range = Unit {0}
IsFailure failure.TooLong = Unit {0}
IsFailure (failure.Lookup name) = is_name name ≡ true
IsFailure (failure.Exit status) = FitsSigned w32 status
IsFailure failure.Spawn = Unit {0}
IsFailure failure.NotText = Unit {0}
IsFailure failure.Lost = Unit {0}
IsFailure (failure.BadReply place) = place < 2 ^ 32
IsFailure failure.Exhausted = Unit {0}

-- a payload within the limits
abbrev pub IsPayload : Payload → Type 0
IsPayload payload.Empty = Unit {0}
IsPayload (payload.Value value) = IsValue value
IsPayload (payload.Fault fault) = IsFailure fault

-- what was recorded has the payload that its state names, within the limits, and numbers of 16 bits
abbrev pub HasItsPayload : What → Type 0
HasItsPayload (what.Atom number state held) = (number < 2 ^ 16) × (is_payload_of state held ≡ true) × IsPayload held
HasItsPayload (what.Flow state) = Unit {0}
HasItsPayload (what.Resolve number kind) = number < 2 ^ 16
HasItsPayload (what.Restart number) = number < 2 ^ 16

-- its atom or its flow is one of so many
abbrev pub IsAmong : ℕ → ℕ → What → Type 0
IsAmong atoms flows (what.Atom number state held) = number < atoms
IsAmong atoms flows (what.Flow state) = Unit {0}
IsAmong atoms flows (what.Resolve number kind) = number < flows
IsAmong atoms flows (what.Restart number) = number < atoms

-- an entry of a plan with so many atoms and so many flows
pub record IsEntry (atoms flows : ℕ) (entry : Entry) : Type 0 where
  pub hand : entry.hand < 64
  pub among : IsAmong atoms flows entry.what
  pub payload : HasItsPayload entry.what
