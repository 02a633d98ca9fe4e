-- The words of a line.
use Rattle.std.specs.Prelude.{◌≡◌, ℕ, List, [], ◌∷◌, ◌++◌, Bool, true, not, ◌||◌, ◌==◌, Option, Some, None, if◌then◌else◌, codes}
use Rattle.std.specs.List.{list_all}
use Rattle.std.specs.Str.{bytes_eq}
use Rattle.tf_states.specs.declared.record.Kind.{Kind}
use Rattle.tf_states.specs.declared.record.Kind.TheVariants as kind
use Rattle.tf_states.specs.declared.state.AtomState.{AtomState}
use Rattle.tf_states.specs.declared.state.AtomState.TheVariants as atom
use Rattle.tf_states.specs.declared.state.FlowState.{FlowState}
use Rattle.tf_states.specs.declared.state.FlowState.TheVariants as flow

-- a space or a line feed
abbrev pub is_blank : ℕ → Bool
is_blank byte = (byte == 32) || (byte == 10)

-- bytes with neither
abbrev pub is_unbroken : List ℕ → Bool
is_unbroken bytes = list_all (λ byte. not (is_blank byte)) bytes

-- nothing, a space or a line feed comes next
abbrev pub breaks_here : List ℕ → Bool
breaks_here [] = true
breaks_here (next ∷ others) = is_blank next

-- the word is what the bytes have before their first blank, if they have one, and the rest is what stands behind that
pub record IsFirstWord (bytes word rest : List ℕ) : Type 0 where
  pub one : (w r : List ℕ) (blank : ℕ) → is_unbroken w ≡ true → is_blank blank ≡ true → bytes ≡ w ++ blank ∷ r
      → (word ≡ w) × (rest ≡ r)

-- the state of an atom that has this word
abbrev pub atom_state_named : List ℕ → Option AtomState
atom_state_named word =
    if bytes_eq word (codes "PENDING") then Some atom.Pending
    else if bytes_eq word (codes "RUNNING") then Some atom.Running
    else if bytes_eq word (codes "SUCCESS") then Some atom.Success
    else if bytes_eq word (codes "FAILURE") then Some atom.Failure
    else if bytes_eq word (codes "REVERTING") then Some atom.Reverting
    else if bytes_eq word (codes "REVERTED") then Some atom.Reverted
    else if bytes_eq word (codes "REVERT_FAILURE") then Some atom.RevertFailure
    else if bytes_eq word (codes "IGNORE") then Some atom.Ignore
    else if bytes_eq word (codes "RETRYING") then Some atom.Retrying
    else None

-- the state of the flow that has this word
abbrev pub flow_state_named : List ℕ → Option FlowState
flow_state_named word =
    if bytes_eq word (codes "PENDING") then Some flow.Pending
    else if bytes_eq word (codes "RUNNING") then Some flow.Running
    else if bytes_eq word (codes "SUCCESS") then Some flow.Success
    else if bytes_eq word (codes "FAILURE") then Some flow.Failure
    else if bytes_eq word (codes "REVERTED") then Some flow.Reverted
    else if bytes_eq word (codes "SUSPENDING") then Some flow.Suspending
    else if bytes_eq word (codes "SUSPENDED") then Some flow.Suspended
    else if bytes_eq word (codes "RESUMING") then Some flow.Resuming
    else None

-- what a failure is resolved to that has this word
abbrev pub resolution_named : List ℕ → Option Kind
resolution_named word =
    if bytes_eq word (codes "RETRY") then Some kind.Retry
    else if bytes_eq word (codes "REVERT") then Some kind.Revert
    else if bytes_eq word (codes "REVERT_ALL") then Some kind.RevertAll
    else None
