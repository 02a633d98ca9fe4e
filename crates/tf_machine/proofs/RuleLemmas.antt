-- Why an entry may not follow.
use Rattle.std.proofs.Common.{◌≡◌, ◌≢◌, true, false, Some}
use Rattle.tf_states.specs.declared.record.Entry.{Entry}
use Rattle.tf_states.specs.declared.record.What.TheVariants as what
use Rattle.tf_states.specs.declared.state.FlowState.TheVariants as flow
use Rattle.tf_model.specs.Plan.{Outline}
use Rattle.tf_model.specs.History.{Snapshot}
use Rattle.tf_model.specs.Forced.{forced, choice}
use Rattle.tf_model.specs.Steps.{Rule, by_force, by_choice, by_end_of_task, by_turn, by_end, by_suspension, by_reset, is_free, is_still, ends_task, turns_flow, end_entry, may_suspend, reset}

-- none of the rules applies
pub no_rule : (plan : Outline) (s : Snapshot) (e : Entry) → forced plan s ≢ Some e.what → (is_free plan s e.hand ≡ true → choice plan s ≢ Some e.what)
    → ends_task s e.hand e.what ≡ false → turns_flow s.flow e.what ≡ false → (is_still plan s ≡ true → end_entry plan s ≢ Some e.what)
    → (may_suspend plan s ≡ true → e.what ≢ what.Flow flow.Suspended) → reset plan s ≢ Some e.what → Rule plan s e → ⊥
no_rule plan s e no_force no_choice no_end_of_task no_turn no_end no_suspension no_reset (by_force is) = no_force is
no_rule plan s e no_force no_choice no_end_of_task no_turn no_end no_suspension no_reset (by_choice is free) = no_choice free is
no_rule plan s e no_force no_choice no_end_of_task no_turn no_end no_suspension no_reset (by_end_of_task is) = absurd (cc)
no_rule plan s e no_force no_choice no_end_of_task no_turn no_end no_suspension no_reset (by_turn is) = absurd (cc)
no_rule plan s e no_force no_choice no_end_of_task no_turn no_end no_suspension no_reset (by_end is still) = no_end still is
no_rule plan s e no_force no_choice no_end_of_task no_turn no_end no_suspension no_reset (by_suspension is event) = no_suspension is event
no_rule plan s e no_force no_choice no_end_of_task no_turn no_end no_suspension no_reset (by_reset is) = no_reset is
