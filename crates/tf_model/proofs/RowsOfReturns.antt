-- What a return to PENDING clears, and which of several depths counts.
use Rattle.std.specs.Prelude.{◌≡◌, [], ◌∷◌, reverse, map, Some, refl}
use Rattle.tf_flow.specs.declared.deciders.Depth.TheVariants as depth
use Rattle.tf_states.specs.declared.state.AtomState.TheVariants as atom
use Rattle.tf_model.specs.Plan.{is_before, holds}
use Rattle.tf_model.specs.History.{mark_after, snapshot, attempts_of}
use Rattle.tf_model.specs.Scope.{members, symbol_value}
use Rattle.tf_model.specs.Readiness.{can_run, can_revert, refused, ignores, widest}
use Rattle.tf_model.specs.Retries.{attempt, answer, resolution}
use Rattle.tf_model.specs.Forced.{forced_attempt, forced_again, forced_reverted, forced_resolution, forced_retrying, forced_revert, forced_ignore, forced_run, forced_if_running, is_active, forced, candidate_if_running, choice, calm_end, end_of}
use Rattle.tf_model.specs.Steps.{is_free, is_still, ends_task, may_suspend, reset, LegalPast}
use Rattle.tf_model.proofs.RowWords.{number, by, to, gives, take_up}
use Rattle.tf_model.proofs.RowsOfTasks.{reverted_in_reverse_plan, put_back_anew, put_back_anew_legal}

-- a flow that was put back has no mark left: its first task starts again
pub started_anew_legal : LegalPast reverted_in_reverse_plan (by 0 (to 0 atom.Running) ∷ reverse put_back_anew)
unfolding is_before holds mark_after snapshot members symbol_value can_run can_revert refused ignores attempt answer resolution forced_attempt forced_again forced_reverted forced_resolution forced_retrying forced_revert forced_ignore forced_run forced_if_running is_active forced candidate_if_running choice calm_end end_of is_free is_still ends_task may_suspend reset
started_anew_legal = (take_up refl refl refl, put_back_anew_legal)

-- an atom that was put back has no attempts left
pub attempts_cleared : attempts_of (by 0 (to 0 atom.Pending) ∷ by 0 (gives 0 (number 1)) ∷ []) 0 ≡ 0
attempts_cleared = refl

-- the widest depth counts, wherever it stands
pub widest_depths : map widest ((depth.Atom ∷ depth.All ∷ []) ∷ (depth.All ∷ depth.Atom ∷ []) ∷ (depth.Neighbors ∷ depth.Flow ∷ depth.Atom ∷ []) ∷ [])
    ≡ Some depth.All ∷ Some depth.All ∷ Some depth.Flow ∷ []
widest_depths = refl
