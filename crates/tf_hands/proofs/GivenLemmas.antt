-- What ends no task carries no outcome that an order could refuse.
use Rattle.std.proofs.Common.{◌≡◌, ℕ, List, true, false, not, Option, Some, None, refl, ap, slice_get}
use Rattle.std.specs.Prelude.{option_map}
use Rattle.tf_states.specs.declared.record.Entry.{Entry}
use Rattle.tf_states.specs.declared.record.Payload.TheVariants as payload
use Rattle.tf_states.specs.declared.record.What.{What}
use Rattle.tf_states.specs.declared.record.What.TheVariants as what
use Rattle.tf_states.specs.declared.state.AtomState.TheVariants as atom
use Rattle.tf_flow.specs.Outline.{Atom, Part, a_task, a_retry, is_task_part}
use Rattle.tf_actions.specs.declared.orders.Order.{Order}
use Rattle.tf_actions.specs.declared.outcomes.Action.{Action}
use Rattle.tf_actions.specs.declared.outcomes.Action.TheVariants as action
use Rattle.tf_actions.specs.declared.outcomes.Outcome.{Outcome}
use Rattle.tf_numbers.proofs.TruthLemmas.{not_true}
use Rattle.tf_model.specs.Scope.{task_part, order_with, order_of, Allows, IsUnasked, IsGiven, given_for}
use Rattle.tf_model.specs.Plan.{Outline, is_task}
use Rattle.tf_model.proofs.Told.{task_in, is_task_in}
use Rattle.tf_model.specs.History.{Snapshot}
use Rattle.tf_hands.specs.Hands.{is_no_end}

-- ---- nobody is asked for an atom that is no task

no_task_at : (o : Option Atom) → is_task_in o ≡ false → task_in o ≡ None
no_task_at None is = refl
no_task_at (Some atom) is = by atom.part is
  where
    by : (p : Part) → is_task_part p ≡ false → task_part p ≡ None
    by (a_task t) is = absurd (cc)
    by (a_retry r) is = refl

unasked : (plan : Outline) (s : Snapshot) (a : ℕ) (how : Action) → not (is_task plan a) ≡ true → order_of plan s a how ≡ None
unfolding order_of
unasked plan s a how is = ap (option_map (order_with a how (given_for plan s a how))) (no_task_at (slice_get plan.atoms a) (not_true (is_task plan a) is))

allowed_unasked : (gives : Order → Outcome → Type 0) (o : Option Order) (came : Outcome) → o ≡ None → Allows gives o came
allowed_unasked gives None came is = tt
allowed_unasked gives (Some order) came is = absurd (cc)

none_unasked : (o : Option Order) → o ≡ None → IsUnasked o
none_unasked None is = tt
none_unasked (Some order) is = absurd (cc)

-- ---- what ends no task

pub no_end_given : (gives : Order → Outcome → Type 0) (plan : Outline) (past : List Entry) (w : What) → is_no_end plan w ≡ true → IsGiven gives plan past w
no_end_given gives plan past (what.Flow state) is = tt
no_end_given gives plan past (what.Resolve named resolved) is = tt
no_end_given gives plan past (what.Restart again) is = tt
no_end_given gives plan past (what.Atom a atom.Pending held) is = tt
no_end_given gives plan past (what.Atom a atom.Ignore held) is = tt
no_end_given gives plan past (what.Atom a atom.Running held) is = tt
no_end_given gives plan past (what.Atom a atom.Reverting held) is = tt
no_end_given gives plan past (what.Atom a atom.Retrying held) is = tt
no_end_given gives plan past (what.Atom a atom.Reverted held) is = allowed_unasked gives _ _ (unasked plan _ a action.Revert is)
no_end_given gives plan past (what.Atom a atom.Success (payload.Value v)) is = allowed_unasked gives _ _ (unasked plan _ a action.Execute is)
no_end_given gives plan past (what.Atom a atom.Success (payload.Fault f)) is = none_unasked _ (unasked plan _ a action.Execute is)
no_end_given gives plan past (what.Atom a atom.Success payload.Empty) is = none_unasked _ (unasked plan _ a action.Execute is)
no_end_given gives plan past (what.Atom a atom.Failure (payload.Fault f)) is = allowed_unasked gives _ _ (unasked plan _ a action.Execute is)
no_end_given gives plan past (what.Atom a atom.Failure (payload.Value v)) is = none_unasked _ (unasked plan _ a action.Execute is)
no_end_given gives plan past (what.Atom a atom.Failure payload.Empty) is = none_unasked _ (unasked plan _ a action.Execute is)
no_end_given gives plan past (what.Atom a atom.RevertFailure (payload.Fault f)) is = allowed_unasked gives _ _ (unasked plan _ a action.Revert is)
no_end_given gives plan past (what.Atom a atom.RevertFailure (payload.Value v)) is = none_unasked _ (unasked plan _ a action.Revert is)
no_end_given gives plan past (what.Atom a atom.RevertFailure payload.Empty) is = none_unasked _ (unasked plan _ a action.Revert is)
