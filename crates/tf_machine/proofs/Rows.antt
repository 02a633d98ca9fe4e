-- Small cases of the definitions, worked out by hand.
use Rattle.std.proofs.Common.{◌≡◌, [], ◌∷◌, pos, true, false, Some, None, refl}
use Rattle.tf_values.specs.declared.value.Val.TheVariants as value
use Rattle.tf_states.specs.declared.record.Failure.TheVariants as failure
use Rattle.tf_states.specs.declared.record.Kind.TheVariants as kind
use Rattle.tf_states.specs.declared.record.Payload.TheVariants as payload
use Rattle.tf_states.specs.declared.record.What.TheVariants as what
use Rattle.tf_states.specs.declared.state.AtomState.TheVariants as atom
use Rattle.tf_states.specs.declared.state.FlowState.TheVariants as flow
use Rattle.tf_actions.specs.declared.outcomes.Action.TheVariants as action
use Rattle.tf_actions.specs.declared.outcomes.Outcome.TheVariants as outcome
use Rattle.tf_model.specs.History.{Snapshot}
use Rattle.tf_hands.specs.Hands.{start_entry, action_in, ended_from}
use Rattle.tf_machine.specs.Tables.{shown_of}

-- of two atoms the first is RUNNING by hand 5, and the second is SUCCESS with 7 and to be reverted
abbrev tables : Snapshot
tables =
    shown_of
    (record { state = atom.Running; payload = payload.Empty } ∷ record { state = atom.Success; payload = payload.Value (value.Int (pos 7)) } ∷ [])
    (record { mark = None; hand = Some 5; attempts = 0 } ∷ record { mark = Some (record { flow = 0; kind = kind.RevertAll }); hand = None; attempts = 1 } ∷ [])
    flow.Running

running_by_five : (tables.state 0 ≡ atom.Running) × (tables.hand 0 ≡ Some 5)
running_by_five = (refl, refl)

marked_to_revert : (tables.mark 1 ≡ Some (record { flow = 0; kind = kind.RevertAll })) × (tables.attempts 1 ≡ 1)
marked_to_revert = (refl, refl)

-- an atom that isn't there is PENDING, with nothing in flight
nothing_there : (tables.state 2 ≡ atom.Pending) × (tables.hand 2 ≡ None)
nothing_there = (refl, refl)

-- a task is begun, or taken up again
begun_to_run : start_entry (record { atom = 3; action = action.Execute; restart = false }) ≡ what.Atom 3 atom.Running payload.Empty
begun_to_run = refl

taken_up_to_revert : (start_entry (record { atom = 3; action = action.Revert; restart = true }) ≡ what.Restart 3) × (action_in atom.Reverting ≡ action.Revert)
taken_up_to_revert = (refl, refl)

-- how tasks end
ends_of_running : (ended_from 3 atom.Running (outcome.Gave value.Nothing) ≡ what.Atom 3 atom.Success (payload.Value value.Nothing))
    × (ended_from 3 atom.Running (outcome.Failed failure.Range) ≡ what.Atom 3 atom.Failure (payload.Fault failure.Range))
ends_of_running = (refl, refl)

ends_of_reverting : (ended_from 3 atom.Reverting (outcome.Gave value.Nothing) ≡ what.Atom 3 atom.Reverted payload.Empty)
    × (ended_from 3 atom.Reverting (outcome.Failed failure.Range) ≡ what.Atom 3 atom.RevertFailure (payload.Fault failure.Range))
ends_of_reverting = (refl, refl)
