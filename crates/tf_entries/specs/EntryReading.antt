-- How an entry is read.
use Rattle.std.specs.Prelude.{ℕ, ◌==◌, List, [], ◌∷◌, nat_lt, Option, Some, None, if◌then◌else◌}
use Rattle.std.specs.Int.{w16, w32}
use Rattle.tf_states.specs.declared.record.Entry.{Entry}
use Rattle.tf_states.specs.declared.record.Failure.{Failure}
use Rattle.tf_states.specs.declared.record.Failure.TheVariants as failure
use Rattle.tf_states.specs.declared.record.Kind.{Kind}
use Rattle.tf_states.specs.declared.record.Kind.TheVariants as kind
use Rattle.tf_states.specs.declared.record.Payload.{Payload}
use Rattle.tf_states.specs.declared.record.Payload.TheVariants as payload
use Rattle.tf_states.specs.declared.record.What.{What}
use Rattle.tf_states.specs.declared.record.What.TheVariants as what
use Rattle.tf_states.specs.declared.state.AtomState.{AtomState}
use Rattle.tf_states.specs.declared.state.AtomState.TheVariants as atom
use Rattle.tf_states.specs.declared.state.FlowState.{FlowState}
use Rattle.tf_states.specs.declared.state.FlowState.TheVariants as flow
use Rattle.tf_entries.specs.Reading.{chain, where_true, numbered, read_number, read_signed, read_name, read_text, read_value}

-- the state of an atom that has this number
abbrev pub atom_state_of : ℕ → Option AtomState
atom_state_of n =
    if n == 0 then Some atom.Pending
    else if n == 1 then Some atom.Running
    else if n == 2 then Some atom.Success
    else if n == 3 then Some atom.Failure
    else if n == 4 then Some atom.Reverting
    else if n == 5 then Some atom.Reverted
    else if n == 6 then Some atom.RevertFailure
    else if n == 7 then Some atom.Ignore
    else if n == 8 then Some atom.Retrying
    else None

-- the state of the flow that has this number
abbrev pub flow_state_of : ℕ → Option FlowState
flow_state_of n =
    if n == 0 then Some flow.Pending
    else if n == 1 then Some flow.Running
    else if n == 2 then Some flow.Success
    else if n == 3 then Some flow.Failure
    else if n == 4 then Some flow.Reverted
    else if n == 5 then Some flow.Suspending
    else if n == 6 then Some flow.Suspended
    else if n == 7 then Some flow.Resuming
    else None

-- what a failure is resolved to that has this number
abbrev pub kind_of : ℕ → Option Kind
kind_of n =
    if n == 0 then Some kind.Retry
    else if n == 1 then Some kind.Revert
    else if n == 2 then Some kind.RevertAll
    else None

-- the state of an atom, the state of the flow, a kind of resolution
abbrev pub read_atom_state : List ℕ → Option (AtomState × List ℕ)
read_atom_state [] = None
read_atom_state (n ∷ rest) = numbered (atom_state_of n) rest

abbrev pub read_flow_state : List ℕ → Option (FlowState × List ℕ)
read_flow_state [] = None
read_flow_state (n ∷ rest) = numbered (flow_state_of n) rest

abbrev pub read_kind : List ℕ → Option (Kind × List ℕ)
read_kind [] = None
read_kind (n ∷ rest) = numbered (kind_of n) rest

-- a failure of this tag
abbrev pub read_failure_of : ℕ → List ℕ → Option (Failure × List ℕ)
read_failure_of tag bytes =
    if tag == 0 then chain (read_text bytes) (λ text rest. Some (failure.Raised text, rest))
    else if tag == 1 then chain (read_name bytes) (λ name rest. Some (failure.WrongKind name, rest))
    else if tag == 2 then Some (failure.Overflow, bytes)
    else if tag == 3 then Some (failure.Range, bytes)
    else if tag == 4 then Some (failure.TooLong, bytes)
    else if tag == 5 then chain (read_name bytes) (λ name rest. Some (failure.Lookup name, rest))
    else if tag == 6 then chain (read_signed w32 bytes) (λ status rest. Some (failure.Exit status, rest))
    else if tag == 7 then Some (failure.Spawn, bytes)
    else if tag == 8 then Some (failure.NotText, bytes)
    else if tag == 9 then Some (failure.Lost, bytes)
    else if tag == 10 then chain (read_number w32 bytes) (λ place rest. Some (failure.BadReply place, rest))
    else if tag == 11 then Some (failure.Exhausted, bytes)
    else None

-- a failure
abbrev pub read_failure : List ℕ → Option (Failure × List ℕ)
read_failure [] = None
read_failure (tag ∷ bytes) = read_failure_of tag bytes

-- a value, and a failure, as a payload
abbrev pub read_result : List ℕ → Option (Payload × List ℕ)
read_result bytes = chain (read_value bytes) (λ value rest. Some (payload.Value value, rest))

abbrev pub read_fault : List ℕ → Option (Payload × List ℕ)
read_fault bytes = chain (read_failure bytes) (λ fault rest. Some (payload.Fault fault, rest))

-- the payload that a state names
abbrev pub read_payload : AtomState → List ℕ → Option (Payload × List ℕ)
read_payload atom.Success bytes = read_result bytes
read_payload atom.Failure bytes = read_fault bytes
read_payload atom.RevertFailure bytes = read_fault bytes
read_payload state bytes = Some (payload.Empty, bytes)

-- a number of 16 bits below a count
abbrev pub read_below : ℕ → List ℕ → Option (ℕ × List ℕ)
read_below count bytes = chain (read_number w16 bytes) (λ n rest. where_true (nat_lt n count) (Some (n, rest)))

-- what an atom enters
abbrev pub read_atom : ℕ → List ℕ → Option (What × List ℕ)
read_atom atoms bytes =
    chain (read_below atoms bytes) (λ number rest.
    chain (read_atom_state rest) (λ state more.
    chain (read_payload state more) (λ held after.
    Some (what.Atom number state held, after))))

-- what the flow enters
abbrev pub read_flow : List ℕ → Option (What × List ℕ)
read_flow bytes = chain (read_flow_state bytes) (λ state rest. Some (what.Flow state, rest))

-- a resolution at a flow
abbrev pub read_resolve : ℕ → List ℕ → Option (What × List ℕ)
read_resolve flows bytes =
    chain (read_below flows bytes) (λ number rest.
    chain (read_kind rest) (λ kind after.
    Some (what.Resolve number kind, after)))

-- a task that is taken up again
abbrev pub read_restart : ℕ → List ℕ → Option (What × List ℕ)
read_restart atoms bytes = chain (read_below atoms bytes) (λ number rest. Some (what.Restart number, rest))

-- what was recorded with this tag, in a plan of so many atoms and flows
abbrev pub read_what_of : ℕ → ℕ → ℕ → List ℕ → Option (What × List ℕ)
read_what_of atoms flows tag bytes =
    if tag == 1 then read_atom atoms bytes
    else if tag == 2 then read_flow bytes
    else if tag == 3 then read_resolve flows bytes
    else if tag == 4 then read_restart atoms bytes
    else None

-- what was recorded
abbrev pub read_what : ℕ → ℕ → List ℕ → Option (What × List ℕ)
read_what atoms flows [] = None
read_what atoms flows (tag ∷ bytes) = read_what_of atoms flows tag bytes

-- an entry
abbrev pub read_entry : ℕ → ℕ → List ℕ → Option (Entry × List ℕ)
read_entry atoms flows [] = None
read_entry atoms flows (hand ∷ bytes) =
    where_true (nat_lt hand 64)
    (chain (read_what atoms flows bytes) (λ what rest. Some (record { hand = hand; what = what }, rest)))
