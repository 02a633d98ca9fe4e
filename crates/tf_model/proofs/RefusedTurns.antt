-- Entries that may not follow, though they are nearly right: turns and ends of the flow, and resets.
use Rattle.std.specs.Prelude.{[], ◌∷◌, reverse, refl, take}
use Rattle.tf_states.specs.declared.state.AtomState.TheVariants as atom
use Rattle.tf_states.specs.declared.state.FlowState.TheVariants as flow
use Rattle.tf_model.specs.Plan.{is_before, holds}
use Rattle.tf_model.specs.History.{mark_after, snapshot}
use Rattle.tf_model.specs.Scope.{members, symbol_value}
use Rattle.tf_model.specs.Readiness.{can_run, can_revert, refused, ignores}
use Rattle.tf_model.specs.Retries.{attempt, answer, resolution}
use Rattle.tf_model.specs.Forced.{forced_attempt, forced_again, forced_reverted, forced_resolution, forced_retrying, forced_revert, forced_ignore, forced_run, forced_if_running, is_active, forced, candidate_if_running, choice, calm_end, end_of}
use Rattle.tf_model.specs.Steps.{is_free, is_still, ends_task, may_suspend, reset, Step}
use Rattle.tf_model.proofs.Refusals.{refuse}
use Rattle.tf_model.proofs.RowWords.{by, to, flow_to}
use Rattle.tf_model.proofs.RowsOfRetries.{nested_revert, nested_revert_plan, three_attempts, three_attempts_plan}
use Rattle.tf_model.proofs.RowsOfSessions.{stopped_and_resumed, stopped_and_resumed_plan}
use Rattle.tf_model.proofs.RowsOfTasks.{put_back_anew, reverted_in_reverse, reverted_in_reverse_plan, two_echoes, two_echoes_plan}
use Rattle.tf_model.proofs.RowsOfFailures.{stays_undone, stays_undone_plan}

-- work left: a task can run
pub ends_with_work_left : Step two_echoes_plan (snapshot two_echoes_plan (reverse (take 3 two_echoes))) (by 0 (flow_to flow.Success)) → ⊥
unfolding is_before holds mark_after snapshot members symbol_value can_run can_revert refused ignores attempt answer resolution forced_attempt forced_again forced_reverted forced_resolution forced_retrying forced_revert forced_ignore forced_run forced_if_running is_active forced candidate_if_running choice calm_end end_of is_free is_still ends_task may_suspend reset
ends_with_work_left = refuse refl

-- in flight: a task is RUNNING
pub ends_in_flight : Step two_echoes_plan (snapshot two_echoes_plan (reverse (take 4 two_echoes))) (by 0 (flow_to flow.Success)) → ⊥
unfolding is_before holds mark_after snapshot members symbol_value can_run can_revert refused ignores attempt answer resolution forced_attempt forced_again forced_reverted forced_resolution forced_retrying forced_revert forced_ignore forced_run forced_if_running is_active forced candidate_if_running choice calm_end end_of is_free is_still ends_task may_suspend reset
ends_in_flight = refuse refl

-- forced first: a failure is unresolved
pub ends_while_forced : Step three_attempts_plan (snapshot three_attempts_plan (reverse (take 5 three_attempts))) (by 0 (flow_to flow.Reverted)) → ⊥
unfolding is_before holds mark_after snapshot members symbol_value can_run can_revert refused ignores attempt answer resolution forced_attempt forced_again forced_reverted forced_resolution forced_retrying forced_revert forced_ignore forced_run forced_if_running is_active forced candidate_if_running choice calm_end end_of is_free is_still ends_task may_suspend reset
ends_while_forced = refuse refl

-- work left: a task can revert
pub reverted_with_work_left : Step reverted_in_reverse_plan (snapshot reverted_in_reverse_plan (reverse (take 10 reverted_in_reverse))) (by 0 (flow_to flow.Reverted)) → ⊥
unfolding is_before holds mark_after snapshot members symbol_value can_run can_revert refused ignores attempt answer resolution forced_attempt forced_again forced_reverted forced_resolution forced_retrying forced_revert forced_ignore forced_run forced_if_running is_active forced candidate_if_running choice calm_end end_of is_free is_still ends_task may_suspend reset
reverted_with_work_left = refuse refl

-- in flight: a task is REVERTING
pub reverted_in_flight : Step reverted_in_reverse_plan (snapshot reverted_in_reverse_plan (reverse (take 13 reverted_in_reverse))) (by 0 (flow_to flow.Reverted)) → ⊥
unfolding is_before holds mark_after snapshot members symbol_value can_run can_revert refused ignores attempt answer resolution forced_attempt forced_again forced_reverted forced_resolution forced_retrying forced_revert forced_ignore forced_run forced_if_running is_active forced candidate_if_running choice calm_end end_of is_free is_still ends_task may_suspend reset
reverted_in_flight = refuse refl

-- another end: no task is SUCCESS
pub success_after_reversion : Step reverted_in_reverse_plan (snapshot reverted_in_reverse_plan (reverse (take 14 reverted_in_reverse))) (by 0 (flow_to flow.Success)) → ⊥
unfolding is_before holds mark_after snapshot members symbol_value can_run can_revert refused ignores attempt answer resolution forced_attempt forced_again forced_reverted forced_resolution forced_retrying forced_revert forced_ignore forced_run forced_if_running is_active forced candidate_if_running choice calm_end end_of is_free is_still ends_task may_suspend reset
success_after_reversion = refuse refl

-- another end: every task is SUCCESS
pub reverted_after_success : Step two_echoes_plan (snapshot two_echoes_plan (reverse (take 5 two_echoes))) (by 0 (flow_to flow.Reverted)) → ⊥
unfolding is_before holds mark_after snapshot members symbol_value can_run can_revert refused ignores attempt answer resolution forced_attempt forced_again forced_reverted forced_resolution forced_retrying forced_revert forced_ignore forced_run forced_if_running is_active forced candidate_if_running choice calm_end end_of is_free is_still ends_task may_suspend reset
reverted_after_success = refuse refl

-- another end: no revert failed
pub failure_without_failed_revert : Step reverted_in_reverse_plan (snapshot reverted_in_reverse_plan (reverse (take 14 reverted_in_reverse))) (by 0 (flow_to flow.Failure)) → ⊥
unfolding is_before holds mark_after snapshot members symbol_value can_run can_revert refused ignores attempt answer resolution forced_attempt forced_again forced_reverted forced_resolution forced_retrying forced_revert forced_ignore forced_run forced_if_running is_active forced candidate_if_running choice calm_end end_of is_free is_still ends_task may_suspend reset
failure_without_failed_revert = refuse refl

-- another end: a revert failed
pub reverted_after_failed_revert : Step stays_undone_plan (snapshot stays_undone_plan (reverse (take 10 stays_undone))) (by 0 (flow_to flow.Reverted)) → ⊥
unfolding is_before holds mark_after snapshot members symbol_value can_run can_revert refused ignores attempt answer resolution forced_attempt forced_again forced_reverted forced_resolution forced_retrying forced_revert forced_ignore forced_run forced_if_running is_active forced candidate_if_running choice calm_end end_of is_free is_still ends_task may_suspend reset
reverted_after_failed_revert = refuse refl

-- suspended: there is no end
pub ends_when_suspended : Step stopped_and_resumed_plan (snapshot stopped_and_resumed_plan (reverse (take 7 stopped_and_resumed))) (by 0 (flow_to flow.Success)) → ⊥
unfolding is_before holds mark_after snapshot members symbol_value can_run can_revert refused ignores attempt answer resolution forced_attempt forced_again forced_reverted forced_resolution forced_retrying forced_revert forced_ignore forced_run forced_if_running is_active forced candidate_if_running choice calm_end end_of is_free is_still ends_task may_suspend reset
ends_when_suspended = refuse refl

-- no turn: it is RUNNING
pub runs_when_running : Step two_echoes_plan (snapshot two_echoes_plan (reverse (take 1 two_echoes))) (by 0 (flow_to flow.Running)) → ⊥
unfolding is_before holds mark_after snapshot members symbol_value can_run can_revert refused ignores attempt answer resolution forced_attempt forced_again forced_reverted forced_resolution forced_retrying forced_revert forced_ignore forced_run forced_if_running is_active forced candidate_if_running choice calm_end end_of is_free is_still ends_task may_suspend reset
runs_when_running = refuse refl

-- no turn: SUSPENDING comes between
pub suspended_at_once : Step two_echoes_plan (snapshot two_echoes_plan (reverse (take 1 two_echoes))) (by 0 (flow_to flow.Suspended)) → ⊥
unfolding is_before holds mark_after snapshot members symbol_value can_run can_revert refused ignores attempt answer resolution forced_attempt forced_again forced_reverted forced_resolution forced_retrying forced_revert forced_ignore forced_run forced_if_running is_active forced candidate_if_running choice calm_end end_of is_free is_still ends_task may_suspend reset
suspended_at_once = refuse refl

-- no turn: it is SUSPENDED
pub suspending_when_suspended : Step stopped_and_resumed_plan (snapshot stopped_and_resumed_plan (reverse (take 7 stopped_and_resumed))) (by 0 (flow_to flow.Suspending)) → ⊥
unfolding is_before holds mark_after snapshot members symbol_value can_run can_revert refused ignores attempt answer resolution forced_attempt forced_again forced_reverted forced_resolution forced_retrying forced_revert forced_ignore forced_run forced_if_running is_active forced candidate_if_running choice calm_end end_of is_free is_still ends_task may_suspend reset
suspending_when_suspended = refuse refl

-- no turn: it is SUSPENDED
pub resuming_when_suspended : Step stopped_and_resumed_plan (snapshot stopped_and_resumed_plan (reverse (take 7 stopped_and_resumed))) (by 0 (flow_to flow.Resuming)) → ⊥
unfolding is_before holds mark_after snapshot members symbol_value can_run can_revert refused ignores attempt answer resolution forced_attempt forced_again forced_reverted forced_resolution forced_retrying forced_revert forced_ignore forced_run forced_if_running is_active forced candidate_if_running choice calm_end end_of is_free is_still ends_task may_suspend reset
resuming_when_suspended = refuse refl

-- ended: SUCCESS is the last state
pub runs_after_success : Step two_echoes_plan (snapshot two_echoes_plan (reverse (take 6 two_echoes))) (by 0 (flow_to flow.Running)) → ⊥
unfolding is_before holds mark_after snapshot members symbol_value can_run can_revert refused ignores attempt answer resolution forced_attempt forced_again forced_reverted forced_resolution forced_retrying forced_revert forced_ignore forced_run forced_if_running is_active forced candidate_if_running choice calm_end end_of is_free is_still ends_task may_suspend reset
runs_after_success = refuse refl

-- in flight: a task is RUNNING
pub suspended_in_flight : Step two_echoes_plan (snapshot two_echoes_plan (by 0 (flow_to flow.Suspending) ∷ reverse (take 2 two_echoes))) (by 0 (flow_to flow.Suspended)) → ⊥
unfolding is_before holds mark_after snapshot members symbol_value can_run can_revert refused ignores attempt answer resolution forced_attempt forced_again forced_reverted forced_resolution forced_retrying forced_revert forced_ignore forced_run forced_if_running is_active forced candidate_if_running choice calm_end end_of is_free is_still ends_task may_suspend reset
suspended_in_flight = refuse refl

-- there is an end: it is recorded instead
pub suspended_at_the_end : Step two_echoes_plan (snapshot two_echoes_plan (by 0 (flow_to flow.Suspending) ∷ reverse (take 5 two_echoes))) (by 0 (flow_to flow.Suspended)) → ⊥
unfolding is_before holds mark_after snapshot members symbol_value can_run can_revert refused ignores attempt answer resolution forced_attempt forced_again forced_reverted forced_resolution forced_retrying forced_revert forced_ignore forced_run forced_if_running is_active forced candidate_if_running choice calm_end end_of is_free is_still ends_task may_suspend reset
suspended_at_the_end = refuse refl

-- not REVERTED: the flow is RUNNING
pub reset_while_running : Step reverted_in_reverse_plan (snapshot reverted_in_reverse_plan (reverse (take 14 reverted_in_reverse))) (by 0 (to 0 atom.Pending)) → ⊥
unfolding is_before holds mark_after snapshot members symbol_value can_run can_revert refused ignores attempt answer resolution forced_attempt forced_again forced_reverted forced_resolution forced_retrying forced_revert forced_ignore forced_run forced_if_running is_active forced candidate_if_running choice calm_end end_of is_free is_still ends_task may_suspend reset
reset_while_running = refuse refl

-- wrong atom: the first in tree order is put back first
pub reset_out_of_order : Step reverted_in_reverse_plan (snapshot reverted_in_reverse_plan (reverse (take 15 put_back_anew))) (by 0 (to 1 atom.Pending)) → ⊥
unfolding is_before holds mark_after snapshot members symbol_value can_run can_revert refused ignores attempt answer resolution forced_attempt forced_again forced_reverted forced_resolution forced_retrying forced_revert forced_ignore forced_run forced_if_running is_active forced candidate_if_running choice calm_end end_of is_free is_still ends_task may_suspend reset
reset_out_of_order = refuse refl

-- not yet: an atom is REVERTED
pub reset_with_atoms_left : Step reverted_in_reverse_plan (snapshot reverted_in_reverse_plan (reverse (take 17 put_back_anew))) (by 0 (flow_to flow.Pending)) → ⊥
unfolding is_before holds mark_after snapshot members symbol_value can_run can_revert refused ignores attempt answer resolution forced_attempt forced_again forced_reverted forced_resolution forced_retrying forced_revert forced_ignore forced_run forced_if_running is_active forced candidate_if_running choice calm_end end_of is_free is_still ends_task may_suspend reset
reset_with_atoms_left = refuse refl

-- PENDING: there is nothing to put back
pub reset_of_pending : Step reverted_in_reverse_plan (snapshot reverted_in_reverse_plan (reverse (take 16 put_back_anew))) (by 0 (to 0 atom.Pending)) → ⊥
unfolding is_before holds mark_after snapshot members symbol_value can_run can_revert refused ignores attempt answer resolution forced_attempt forced_again forced_reverted forced_resolution forced_retrying forced_revert forced_ignore forced_run forced_if_running is_active forced candidate_if_running choice calm_end end_of is_free is_still ends_task may_suspend reset
reset_of_pending = refuse refl

-- unsettled: a task stays SUCCESS
pub reset_unsettled : Step nested_revert_plan (snapshot nested_revert_plan (reverse (take 13 nested_revert))) (by 0 (to 1 atom.Pending)) → ⊥
unfolding is_before holds mark_after snapshot members symbol_value can_run can_revert refused ignores attempt answer resolution forced_attempt forced_again forced_reverted forced_resolution forced_retrying forced_revert forced_ignore forced_run forced_if_running is_active forced candidate_if_running choice calm_end end_of is_free is_still ends_task may_suspend reset
reset_unsettled = refuse refl

-- no hand: the last one is 63
pub no_such_hand : Step two_echoes_plan (snapshot two_echoes_plan ([])) (by 64 (flow_to flow.Running)) → ⊥
unfolding is_before holds mark_after snapshot members symbol_value can_run can_revert refused ignores attempt answer resolution forced_attempt forced_again forced_reverted forced_resolution forced_retrying forced_revert forced_ignore forced_run forced_if_running is_active forced candidate_if_running choice calm_end end_of is_free is_still ends_task may_suspend reset
no_such_hand = refuse refl
