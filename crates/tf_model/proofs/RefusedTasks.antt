-- Entries that may not follow, though they are nearly right: what hands record of tasks.
use Rattle.std.specs.Prelude.{[], reverse, refl, take}
use Rattle.tf_states.specs.declared.record.Failure.TheVariants as failure
use Rattle.tf_states.specs.declared.state.AtomState.TheVariants as atom
use Rattle.tf_model.specs.Plan.{is_before, holds}
use Rattle.tf_model.specs.History.{mark_after, snapshot}
use Rattle.tf_model.specs.Scope.{members, symbol_value}
use Rattle.tf_model.specs.Readiness.{can_run, can_revert, refused, ignores}
use Rattle.tf_model.specs.Retries.{attempt, answer, resolution}
use Rattle.tf_model.specs.Forced.{forced_attempt, forced_again, forced_reverted, forced_resolution, forced_retrying, forced_revert, forced_ignore, forced_run, forced_if_running, is_active, forced, candidate_if_running, choice, calm_end, end_of}
use Rattle.tf_model.specs.Steps.{is_free, is_still, ends_task, may_suspend, reset, Step}
use Rattle.tf_model.proofs.Refusals.{refuse}
use Rattle.tf_model.proofs.RowWords.{number, by, to, gives, fails, again}
use Rattle.tf_model.proofs.RowsOfRetries.{nested_revert, nested_revert_plan, three_attempts, three_attempts_plan}
use Rattle.tf_model.proofs.RowsOfSessions.{crash_and_restart, one_resolution, one_resolution_plan, stopped_and_resumed, stopped_and_resumed_plan}
use Rattle.tf_model.proofs.RowsOfTasks.{by_priority, by_priority_plan, reverted_in_reverse, reverted_in_reverse_plan, two_echoes, two_echoes_plan}
use Rattle.tf_model.proofs.RowsOfFailures.{left_pending, left_pending_plan, stays_undone, stays_undone_plan}

-- too early: the task before it isn't done
pub early_start : Step two_echoes_plan (snapshot two_echoes_plan (reverse (take 2 two_echoes))) (by 1 (to 1 atom.Running)) → ⊥
unfolding is_before holds mark_after snapshot members symbol_value can_run can_revert refused ignores attempt answer resolution forced_attempt forced_again forced_reverted forced_resolution forced_retrying forced_revert forced_ignore forced_run forced_if_running is_active forced candidate_if_running choice calm_end end_of is_free is_still ends_task may_suspend reset
early_start = refuse refl

-- too early: the task after it isn't settled
pub early_revert : Step reverted_in_reverse_plan (snapshot reverted_in_reverse_plan (reverse (take 8 reverted_in_reverse))) (by 0 (to 1 atom.Reverting)) → ⊥
unfolding is_before holds mark_after snapshot members symbol_value can_run can_revert refused ignores attempt answer resolution forced_attempt forced_again forced_reverted forced_resolution forced_retrying forced_revert forced_ignore forced_run forced_if_running is_active forced candidate_if_running choice calm_end end_of is_free is_still ends_task may_suspend reset
early_revert = refuse refl

-- finished: it is SUCCESS
pub runs_finished_task_again : Step two_echoes_plan (snapshot two_echoes_plan (reverse (take 3 two_echoes))) (by 0 (to 0 atom.Running)) → ⊥
unfolding is_before holds mark_after snapshot members symbol_value can_run can_revert refused ignores attempt answer resolution forced_attempt forced_again forced_reverted forced_resolution forced_retrying forced_revert forced_ignore forced_run forced_if_running is_active forced candidate_if_running choice calm_end end_of is_free is_still ends_task may_suspend reset
runs_finished_task_again = refuse refl

-- unmarked: nothing failed
pub reverts_without_resolve : Step two_echoes_plan (snapshot two_echoes_plan (reverse (take 3 two_echoes))) (by 0 (to 0 atom.Reverting)) → ⊥
unfolding is_before holds mark_after snapshot members symbol_value can_run can_revert refused ignores attempt answer resolution forced_attempt forced_again forced_reverted forced_resolution forced_retrying forced_revert forced_ignore forced_run forced_if_running is_active forced candidate_if_running choice calm_end end_of is_free is_still ends_task may_suspend reset
reverts_without_resolve = refuse refl

-- outside: the task before the nested flow isn't marked
pub reverts_outside_the_region : Step nested_revert_plan (snapshot nested_revert_plan (reverse (take 12 nested_revert))) (by 0 (to 0 atom.Reverting)) → ⊥
unfolding is_before holds mark_after snapshot members symbol_value can_run can_revert refused ignores attempt answer resolution forced_attempt forced_again forced_reverted forced_resolution forced_retrying forced_revert forced_ignore forced_run forced_if_running is_active forced candidate_if_running choice calm_end end_of is_free is_still ends_task may_suspend reset
reverts_outside_the_region = refuse refl

-- marked: it is to be reverted
pub starts_in_a_region : Step left_pending_plan (snapshot left_pending_plan (reverse (take 4 left_pending))) (by 0 (to 1 atom.Running)) → ⊥
unfolding is_before holds mark_after snapshot members symbol_value can_run can_revert refused ignores attempt answer resolution forced_attempt forced_again forced_reverted forced_resolution forced_retrying forced_revert forced_ignore forced_run forced_if_running is_active forced candidate_if_running choice calm_end end_of is_free is_still ends_task may_suspend reset
starts_in_a_region = refuse refl

-- not RUNNING: the flow is PENDING
pub starts_before_running : Step two_echoes_plan (snapshot two_echoes_plan ([])) (by 0 (to 0 atom.Running)) → ⊥
unfolding is_before holds mark_after snapshot members symbol_value can_run can_revert refused ignores attempt answer resolution forced_attempt forced_again forced_reverted forced_resolution forced_retrying forced_revert forced_ignore forced_run forced_if_running is_active forced candidate_if_running choice calm_end end_of is_free is_still ends_task may_suspend reset
starts_before_running = refuse refl

-- suspending: no task is taken up then
pub starts_in_suspending : Step stopped_and_resumed_plan (snapshot stopped_and_resumed_plan (reverse (take 6 stopped_and_resumed))) (by 0 (to 2 atom.Running)) → ⊥
unfolding is_before holds mark_after snapshot members symbol_value can_run can_revert refused ignores attempt answer resolution forced_attempt forced_again forced_reverted forced_resolution forced_retrying forced_revert forced_ignore forced_run forced_if_running is_active forced candidate_if_running choice calm_end end_of is_free is_still ends_task may_suspend reset
starts_in_suspending = refuse refl

-- a revert failed: no task is taken up then
pub starts_after_failed_revert : Step stays_undone_plan (snapshot stays_undone_plan (reverse (take 10 stays_undone))) (by 0 (to 1 atom.Running)) → ⊥
unfolding is_before holds mark_after snapshot members symbol_value can_run can_revert refused ignores attempt answer resolution forced_attempt forced_again forced_reverted forced_resolution forced_retrying forced_revert forced_ignore forced_run forced_if_running is_active forced candidate_if_running choice calm_end end_of is_free is_still ends_task may_suspend reset
starts_after_failed_revert = refuse refl

-- busy: the hand has a task in flight
pub busy_hand : Step one_resolution_plan (snapshot one_resolution_plan (reverse (take 4 one_resolution))) (by 0 (to 2 atom.Running)) → ⊥
unfolding is_before holds mark_after snapshot members symbol_value can_run can_revert refused ignores attempt answer resolution forced_attempt forced_again forced_reverted forced_resolution forced_retrying forced_revert forced_ignore forced_run forced_if_running is_active forced candidate_if_running choice calm_end end_of is_free is_still ends_task may_suspend reset
busy_hand = refuse refl

-- not first: another candidate is before it in tree order
pub not_the_first : Step one_resolution_plan (snapshot one_resolution_plan (reverse (take 3 one_resolution))) (by 0 (to 2 atom.Running)) → ⊥
unfolding is_before holds mark_after snapshot members symbol_value can_run can_revert refused ignores attempt answer resolution forced_attempt forced_again forced_reverted forced_resolution forced_retrying forced_revert forced_ignore forced_run forced_if_running is_active forced candidate_if_running choice calm_end end_of is_free is_still ends_task may_suspend reset
not_the_first = refuse refl

-- outranked: another candidate has a greater priority
pub lower_priority : Step by_priority_plan (snapshot by_priority_plan (reverse (take 1 by_priority))) (by 0 (to 0 atom.Running)) → ⊥
unfolding is_before holds mark_after snapshot members symbol_value can_run can_revert refused ignores attempt answer resolution forced_attempt forced_again forced_reverted forced_resolution forced_retrying forced_revert forced_ignore forced_run forced_if_running is_active forced candidate_if_running choice calm_end end_of is_free is_still ends_task may_suspend reset
lower_priority = refuse refl

-- in flight: it is RUNNING
pub second_start : Step two_echoes_plan (snapshot two_echoes_plan (reverse (take 2 two_echoes))) (by 1 (to 0 atom.Running)) → ⊥
unfolding is_before holds mark_after snapshot members symbol_value can_run can_revert refused ignores attempt answer resolution forced_attempt forced_again forced_reverted forced_resolution forced_retrying forced_revert forced_ignore forced_run forced_if_running is_active forced candidate_if_running choice calm_end end_of is_free is_still ends_task may_suspend reset
second_start = refuse refl

-- interrupted: it is restarted, not started
pub starts_interrupted : Step stopped_and_resumed_plan (snapshot stopped_and_resumed_plan (reverse (take 7 crash_and_restart))) (by 0 (to 1 atom.Running)) → ⊥
unfolding is_before holds mark_after snapshot members symbol_value can_run can_revert refused ignores attempt answer resolution forced_attempt forced_again forced_reverted forced_resolution forced_retrying forced_revert forced_ignore forced_run forced_if_running is_active forced candidate_if_running choice calm_end end_of is_free is_still ends_task may_suspend reset
starts_interrupted = refuse refl

-- in flight: it wasn't interrupted
pub restarts_in_flight : Step two_echoes_plan (snapshot two_echoes_plan (reverse (take 2 two_echoes))) (by 1 (again 0)) → ⊥
unfolding is_before holds mark_after snapshot members symbol_value can_run can_revert refused ignores attempt answer resolution forced_attempt forced_again forced_reverted forced_resolution forced_retrying forced_revert forced_ignore forced_run forced_if_running is_active forced candidate_if_running choice calm_end end_of is_free is_still ends_task may_suspend reset
restarts_in_flight = refuse refl

-- finished: it wasn't interrupted
pub restarts_finished : Step two_echoes_plan (snapshot two_echoes_plan (reverse (take 3 two_echoes))) (by 0 (again 0)) → ⊥
unfolding is_before holds mark_after snapshot members symbol_value can_run can_revert refused ignores attempt answer resolution forced_attempt forced_again forced_reverted forced_resolution forced_retrying forced_revert forced_ignore forced_run forced_if_running is_active forced candidate_if_running choice calm_end end_of is_free is_still ends_task may_suspend reset
restarts_finished = refuse refl

-- a retry controller: it is never interrupted
pub restarts_retry : Step three_attempts_plan (snapshot three_attempts_plan (reverse (take 2 three_attempts))) (by 0 (again 0)) → ⊥
unfolding is_before holds mark_after snapshot members symbol_value can_run can_revert refused ignores attempt answer resolution forced_attempt forced_again forced_reverted forced_resolution forced_retrying forced_revert forced_ignore forced_run forced_if_running is_active forced candidate_if_running choice calm_end end_of is_free is_still ends_task may_suspend reset
restarts_retry = refuse refl

-- interrupted: no hand has it in flight
pub ends_interrupted : Step stopped_and_resumed_plan (snapshot stopped_and_resumed_plan (reverse (take 7 crash_and_restart))) (by 0 (gives 1 (number 2))) → ⊥
unfolding is_before holds mark_after snapshot members symbol_value can_run can_revert refused ignores attempt answer resolution forced_attempt forced_again forced_reverted forced_resolution forced_retrying forced_revert forced_ignore forced_run forced_if_running is_active forced candidate_if_running choice calm_end end_of is_free is_still ends_task may_suspend reset
ends_interrupted = refuse refl

-- resuming: no task ends then
pub ends_after_resuming : Step stopped_and_resumed_plan (snapshot stopped_and_resumed_plan (reverse (take 5 crash_and_restart))) (by 0 (gives 1 (number 2))) → ⊥
unfolding is_before holds mark_after snapshot members symbol_value can_run can_revert refused ignores attempt answer resolution forced_attempt forced_again forced_reverted forced_resolution forced_retrying forced_revert forced_ignore forced_run forced_if_running is_active forced candidate_if_running choice calm_end end_of is_free is_still ends_task may_suspend reset
ends_after_resuming = refuse refl

-- another hand has it in flight
pub wrong_hand : Step one_resolution_plan (snapshot one_resolution_plan (reverse (take 5 one_resolution))) (by 1 (fails 1 failure.Lost)) → ⊥
unfolding is_before holds mark_after snapshot members symbol_value can_run can_revert refused ignores attempt answer resolution forced_attempt forced_again forced_reverted forced_resolution forced_retrying forced_revert forced_ignore forced_run forced_if_running is_active forced candidate_if_running choice calm_end end_of is_free is_still ends_task may_suspend reset
wrong_hand = refuse refl

-- not started: it is PENDING
pub ends_without_start : Step two_echoes_plan (snapshot two_echoes_plan (reverse (take 1 two_echoes))) (by 0 (gives 0 (number 1))) → ⊥
unfolding is_before holds mark_after snapshot members symbol_value can_run can_revert refused ignores attempt answer resolution forced_attempt forced_again forced_reverted forced_resolution forced_retrying forced_revert forced_ignore forced_run forced_if_running is_active forced candidate_if_running choice calm_end end_of is_free is_still ends_task may_suspend reset
ends_without_start = refuse refl

-- finished: it is SUCCESS
pub ends_twice : Step two_echoes_plan (snapshot two_echoes_plan (reverse (take 3 two_echoes))) (by 0 (gives 0 (number 1))) → ⊥
unfolding is_before holds mark_after snapshot members symbol_value can_run can_revert refused ignores attempt answer resolution forced_attempt forced_again forced_reverted forced_resolution forced_retrying forced_revert forced_ignore forced_run forced_if_running is_active forced candidate_if_running choice calm_end end_of is_free is_still ends_task may_suspend reset
ends_twice = refuse refl

-- wrong state: it is RUNNING
pub ends_as_reverted : Step two_echoes_plan (snapshot two_echoes_plan (reverse (take 2 two_echoes))) (by 0 (to 0 atom.Reverted)) → ⊥
unfolding is_before holds mark_after snapshot members symbol_value can_run can_revert refused ignores attempt answer resolution forced_attempt forced_again forced_reverted forced_resolution forced_retrying forced_revert forced_ignore forced_run forced_if_running is_active forced candidate_if_running choice calm_end end_of is_free is_still ends_task may_suspend reset
ends_as_reverted = refuse refl

-- wrong state: it is REVERTING
pub ends_as_success : Step reverted_in_reverse_plan (snapshot reverted_in_reverse_plan (reverse (take 9 reverted_in_reverse))) (by 0 (gives 2 (number 3))) → ⊥
unfolding is_before holds mark_after snapshot members symbol_value can_run can_revert refused ignores attempt answer resolution forced_attempt forced_again forced_reverted forced_resolution forced_retrying forced_revert forced_ignore forced_run forced_if_running is_active forced candidate_if_running choice calm_end end_of is_free is_still ends_task may_suspend reset
ends_as_success = refuse refl

-- no result: SUCCESS carries one
pub ends_without_result : Step two_echoes_plan (snapshot two_echoes_plan (reverse (take 2 two_echoes))) (by 0 (to 0 atom.Success)) → ⊥
unfolding is_before holds mark_after snapshot members symbol_value can_run can_revert refused ignores attempt answer resolution forced_attempt forced_again forced_reverted forced_resolution forced_retrying forced_revert forced_ignore forced_run forced_if_running is_active forced candidate_if_running choice calm_end end_of is_free is_still ends_task may_suspend reset
ends_without_result = refuse refl
