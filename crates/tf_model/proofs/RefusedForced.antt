-- Entries that may not follow, though they are nearly right: what is forced, and what only force can record.
use Rattle.std.specs.Prelude.{◌∷◌, reverse, refl, take}
use Rattle.tf_values.specs.declared.value.Val.TheVariants as value
use Rattle.tf_states.specs.declared.record.Failure.TheVariants as failure
use Rattle.tf_states.specs.declared.record.Kind.TheVariants as resolved
use Rattle.tf_states.specs.declared.state.AtomState.TheVariants as atom
use Rattle.tf_states.specs.declared.state.FlowState.TheVariants as flow
use Rattle.tf_model.specs.Plan.{is_before, holds}
use Rattle.tf_model.specs.History.{mark_after, snapshot}
use Rattle.tf_model.specs.Scope.{members, symbol_value}
use Rattle.tf_model.specs.Readiness.{can_run, can_revert, refused, ignores}
use Rattle.tf_model.specs.Retries.{attempt, answer, resolution}
use Rattle.tf_model.specs.Forced.{forced_attempt, forced_again, forced_reverted, forced_resolution, forced_retrying, forced_revert, forced_ignore, forced_run, forced_if_running, is_active, forced, candidate_if_running, choice, calm_end, end_of}
use Rattle.tf_model.specs.Steps.{is_free, is_still, ends_task, may_suspend, reset, Step}
use Rattle.tf_model.proofs.Refusals.{refuse}
use Rattle.tf_model.proofs.RowWords.{number, by, to, gives, fails, stays, flow_to, resolves}
use Rattle.tf_model.proofs.RowsOfDeciders.{depth_all, depth_all_plan, depth_flow, depth_flow_plan, depth_neighbors, depth_neighbors_plan}
use Rattle.tf_model.proofs.RowsOfRetries.{nested_revert, nested_revert_plan, one_attempt, one_attempt_plan, three_attempts, three_attempts_plan}
use Rattle.tf_model.proofs.RowsOfInnerRetries.{deferred_revert, deferred_revert_plan, inner_exhausted, inner_exhausted_plan}
use Rattle.tf_model.proofs.RowsOfSessions.{one_resolution, one_resolution_plan}
use Rattle.tf_model.proofs.RowsOfTasks.{reverted_in_reverse, reverted_in_reverse_plan, two_echoes, two_echoes_plan}
use Rattle.tf_model.proofs.RowsOfFailures.{stays_undone, stays_undone_plan}

-- another value: an attempt of a retry controller ends with its own value
pub another_value : Step three_attempts_plan (snapshot three_attempts_plan (reverse (take 2 three_attempts))) (by 0 (gives 0 (number 2))) → ⊥
unfolding is_before holds mark_after snapshot members symbol_value can_run can_revert refused ignores attempt answer resolution forced_attempt forced_again forced_reverted forced_resolution forced_retrying forced_revert forced_ignore forced_run forced_if_running is_active forced candidate_if_running choice calm_end end_of is_free is_still ends_task may_suspend reset
another_value = refuse refl

-- no failure: an attempt that has a value doesn't fail
pub attempt_fails : Step three_attempts_plan (snapshot three_attempts_plan (reverse (take 2 three_attempts))) (by 0 (fails 0 failure.Exhausted)) → ⊥
unfolding is_before holds mark_after snapshot members symbol_value can_run can_revert refused ignores attempt answer resolution forced_attempt forced_again forced_reverted forced_resolution forced_retrying forced_revert forced_ignore forced_run forced_if_running is_active forced candidate_if_running choice calm_end end_of is_free is_still ends_task may_suspend reset
attempt_fails = refuse refl

-- no item: an attempt without one doesn't succeed
pub exhausted_succeeds : Step inner_exhausted_plan (snapshot inner_exhausted_plan (reverse (take 4 inner_exhausted))) (by 0 (gives 1 value.Nothing)) → ⊥
unfolding is_before holds mark_after snapshot members symbol_value can_run can_revert refused ignores attempt answer resolution forced_attempt forced_again forced_reverted forced_resolution forced_retrying forced_revert forced_ignore forced_run forced_if_running is_active forced candidate_if_running choice calm_end end_of is_free is_still ends_task may_suspend reset
exhausted_succeeds = refuse refl

-- too early: a retry controller runs anew when nothing of its flow is left to put back
pub runs_before_put_back : Step three_attempts_plan (snapshot three_attempts_plan (reverse (take 9 three_attempts))) (by 0 (to 0 atom.Running)) → ⊥
unfolding is_before holds mark_after snapshot members symbol_value can_run can_revert refused ignores attempt answer resolution forced_attempt forced_again forced_reverted forced_resolution forced_retrying forced_revert forced_ignore forced_run forced_if_running is_active forced candidate_if_running choice calm_end end_of is_free is_still ends_task may_suspend reset
runs_before_put_back = refuse refl

-- still retrying: no task starts meanwhile
pub task_before_put_back : Step three_attempts_plan (snapshot three_attempts_plan (reverse (take 10 three_attempts))) (by 0 (to 1 atom.Running)) → ⊥
unfolding is_before holds mark_after snapshot members symbol_value can_run can_revert refused ignores attempt answer resolution forced_attempt forced_again forced_reverted forced_resolution forced_retrying forced_revert forced_ignore forced_run forced_if_running is_active forced candidate_if_running choice calm_end end_of is_free is_still ends_task may_suspend reset
task_before_put_back = refuse refl

-- wrong state: to revert a retry controller never fails
pub retry_stays_undone : Step one_attempt_plan (snapshot one_attempt_plan (reverse (take 9 one_attempt))) (by 0 (stays 0 failure.Lost)) → ⊥
unfolding is_before holds mark_after snapshot members symbol_value can_run can_revert refused ignores attempt answer resolution forced_attempt forced_again forced_reverted forced_resolution forced_retrying forced_revert forced_ignore forced_run forced_if_running is_active forced candidate_if_running choice calm_end end_of is_free is_still ends_task may_suspend reset
retry_stays_undone = refuse refl

-- resolved already: one resolution covers both failures
pub second_resolve : Step one_resolution_plan (snapshot one_resolution_plan (reverse (take 9 one_resolution))) (by 1 (resolves 0 resolved.Retry)) → ⊥
unfolding is_before holds mark_after snapshot members symbol_value can_run can_revert refused ignores attempt answer resolution forced_attempt forced_again forced_reverted forced_resolution forced_retrying forced_revert forced_ignore forced_run forced_if_running is_active forced candidate_if_running choice calm_end end_of is_free is_still ends_task may_suspend reset
second_resolve = refuse refl

-- no failure
pub resolve_without_failure : Step three_attempts_plan (snapshot three_attempts_plan (reverse (take 4 three_attempts))) (by 0 (resolves 0 resolved.Retry)) → ⊥
unfolding is_before holds mark_after snapshot members symbol_value can_run can_revert refused ignores attempt answer resolution forced_attempt forced_again forced_reverted forced_resolution forced_retrying forced_revert forced_ignore forced_run forced_if_running is_active forced candidate_if_running choice calm_end end_of is_free is_still ends_task may_suspend reset
resolve_without_failure = refuse refl

-- no attempt left: with one attempt the answer isn't RETRY
pub one_attempt_too_many : Step one_attempt_plan (snapshot one_attempt_plan (reverse (take 5 one_attempt))) (by 0 (resolves 0 resolved.Retry)) → ⊥
unfolding is_before holds mark_after snapshot members symbol_value can_run can_revert refused ignores attempt answer resolution forced_attempt forced_again forced_reverted forced_resolution forced_retrying forced_revert forced_ignore forced_run forced_if_running is_active forced candidate_if_running choice calm_end end_of is_free is_still ends_task may_suspend reset
one_attempt_too_many = refuse refl

-- wrong flow: the nested flow is reverted, not the whole
pub resolve_of_another_flow : Step nested_revert_plan (snapshot nested_revert_plan (reverse (take 7 nested_revert))) (by 0 (resolves 0 resolved.RevertAll)) → ⊥
unfolding is_before holds mark_after snapshot members symbol_value can_run can_revert refused ignores attempt answer resolution forced_attempt forced_again forced_reverted forced_resolution forced_retrying forced_revert forced_ignore forced_run forced_if_running is_active forced candidate_if_running choice calm_end end_of is_free is_still ends_task may_suspend reset
resolve_of_another_flow = refuse refl

-- deferred: the nested flow isn't reverted alone
pub resolve_not_deferred : Step deferred_revert_plan (snapshot deferred_revert_plan (reverse (take 7 deferred_revert))) (by 0 (resolves 1 resolved.Revert)) → ⊥
unfolding is_before holds mark_after snapshot members symbol_value can_run can_revert refused ignores attempt answer resolution forced_attempt forced_again forced_reverted forced_resolution forced_retrying forced_revert forced_ignore forced_run forced_if_running is_active forced candidate_if_running choice calm_end end_of is_free is_still ends_task may_suspend reset
resolve_not_deferred = refuse refl

-- unresolved: nothing is reverted before
pub revert_before_resolution : Step reverted_in_reverse_plan (snapshot reverted_in_reverse_plan (reverse (take 7 reverted_in_reverse))) (by 0 (to 2 atom.Reverting)) → ⊥
unfolding is_before holds mark_after snapshot members symbol_value can_run can_revert refused ignores attempt answer resolution forced_attempt forced_again forced_reverted forced_resolution forced_retrying forced_revert forced_ignore forced_run forced_if_running is_active forced candidate_if_running choice calm_end end_of is_free is_still ends_task may_suspend reset
revert_before_resolution = refuse refl

-- too early: a task of its flow is still being reverted
pub retrying_too_early : Step three_attempts_plan (snapshot three_attempts_plan (reverse (take 7 three_attempts))) (by 0 (to 0 atom.Retrying)) → ⊥
unfolding is_before holds mark_after snapshot members symbol_value can_run can_revert refused ignores attempt answer resolution forced_attempt forced_again forced_reverted forced_resolution forced_retrying forced_revert forced_ignore forced_run forced_if_running is_active forced candidate_if_running choice calm_end end_of is_free is_still ends_task may_suspend reset
retrying_too_early = refuse refl

-- no resolve: nothing failed
pub retrying_without_resolve : Step three_attempts_plan (snapshot three_attempts_plan (reverse (take 3 three_attempts))) (by 0 (to 0 atom.Retrying)) → ⊥
unfolding is_before holds mark_after snapshot members symbol_value can_run can_revert refused ignores attempt answer resolution forced_attempt forced_again forced_reverted forced_resolution forced_retrying forced_revert forced_ignore forced_run forced_if_running is_active forced candidate_if_running choice calm_end end_of is_free is_still ends_task may_suspend reset
retrying_without_resolve = refuse refl

-- wrong kind: it was resolved to REVERT
pub retrying_where_reverted : Step one_attempt_plan (snapshot one_attempt_plan (reverse (take 8 one_attempt))) (by 0 (to 0 atom.Retrying)) → ⊥
unfolding is_before holds mark_after snapshot members symbol_value can_run can_revert refused ignores attempt answer resolution forced_attempt forced_again forced_reverted forced_resolution forced_retrying forced_revert forced_ignore forced_run forced_if_running is_active forced candidate_if_running choice calm_end end_of is_free is_still ends_task may_suspend reset
retrying_where_reverted = refuse refl

-- too early: the task after it isn't settled
pub retry_reverts_too_early : Step one_attempt_plan (snapshot one_attempt_plan (reverse (take 6 one_attempt))) (by 0 (to 0 atom.Reverting)) → ⊥
unfolding is_before holds mark_after snapshot members symbol_value can_run can_revert refused ignores attempt answer resolution forced_attempt forced_again forced_reverted forced_resolution forced_retrying forced_revert forced_ignore forced_run forced_if_running is_active forced candidate_if_running choice calm_end end_of is_free is_still ends_task may_suspend reset
retry_reverts_too_early = refuse refl

-- wrong kind: it was resolved to RETRY
pub retry_reverts_where_retried : Step three_attempts_plan (snapshot three_attempts_plan (reverse (take 8 three_attempts))) (by 0 (to 0 atom.Reverting)) → ⊥
unfolding is_before holds mark_after snapshot members symbol_value can_run can_revert refused ignores attempt answer resolution forced_attempt forced_again forced_reverted forced_resolution forced_retrying forced_revert forced_ignore forced_run forced_if_running is_active forced candidate_if_running choice calm_end end_of is_free is_still ends_task may_suspend reset
retry_reverts_where_retried = refuse refl

-- refused: its decider is false
pub refused_task_starts : Step depth_all_plan (snapshot depth_all_plan (reverse (take 3 depth_all))) (by 0 (to 1 atom.Running)) → ⊥
unfolding is_before holds mark_after snapshot members symbol_value can_run can_revert refused ignores attempt answer resolution forced_attempt forced_again forced_reverted forced_resolution forced_retrying forced_revert forced_ignore forced_run forced_if_running is_active forced candidate_if_running choice calm_end end_of is_free is_still ends_task may_suspend reset
refused_task_starts = refuse refl

-- not yet: what it ignores besides itself goes first
pub refused_task_goes_first : Step depth_all_plan (snapshot depth_all_plan (reverse (take 3 depth_all))) (by 0 (to 1 atom.Ignore)) → ⊥
unfolding is_before holds mark_after snapshot members symbol_value can_run can_revert refused ignores attempt answer resolution forced_attempt forced_again forced_reverted forced_resolution forced_retrying forced_revert forced_ignore forced_run forced_if_running is_active forced candidate_if_running choice calm_end end_of is_free is_still ends_task may_suspend reset
refused_task_goes_first = refuse refl

-- wrong atom: the first of them in tree order goes first
pub ignored_out_of_order : Step depth_all_plan (snapshot depth_all_plan (reverse (take 3 depth_all))) (by 0 (to 4 atom.Ignore)) → ⊥
unfolding is_before holds mark_after snapshot members symbol_value can_run can_revert refused ignores attempt answer resolution forced_attempt forced_again forced_reverted forced_resolution forced_retrying forced_revert forced_ignore forced_run forced_if_running is_active forced candidate_if_running choice calm_end end_of is_free is_still ends_task may_suspend reset
ignored_out_of_order = refuse refl

-- too wide: a task of a nested flow is no task of its own flow
pub depth_too_wide : Step depth_flow_plan (snapshot depth_flow_plan (reverse (take 5 depth_flow))) (by 0 (to 4 atom.Ignore)) → ⊥
unfolding is_before holds mark_after snapshot members symbol_value can_run can_revert refused ignores attempt answer resolution forced_attempt forced_again forced_reverted forced_resolution forced_retrying forced_revert forced_ignore forced_run forced_if_running is_active forced candidate_if_running choice calm_end end_of is_free is_still ends_task may_suspend reset
depth_too_wide = refuse refl

-- too narrow: depth NEIGHBORS ignores what is linked too
pub depth_too_narrow : Step depth_neighbors_plan (snapshot depth_neighbors_plan (reverse (take 3 depth_neighbors))) (by 0 (to 1 atom.Ignore)) → ⊥
unfolding is_before holds mark_after snapshot members symbol_value can_run can_revert refused ignores attempt answer resolution forced_attempt forced_again forced_reverted forced_resolution forced_retrying forced_revert forced_ignore forced_run forced_if_running is_active forced candidate_if_running choice calm_end end_of is_free is_still ends_task may_suspend reset
depth_too_narrow = refuse refl

-- not refused: it has no decider
pub nothing_refuses : Step two_echoes_plan (snapshot two_echoes_plan (reverse (take 1 two_echoes))) (by 0 (to 0 atom.Ignore)) → ⊥
unfolding is_before holds mark_after snapshot members symbol_value can_run can_revert refused ignores attempt answer resolution forced_attempt forced_again forced_reverted forced_resolution forced_retrying forced_revert forced_ignore forced_run forced_if_running is_active forced candidate_if_running choice calm_end end_of is_free is_still ends_task may_suspend reset
nothing_refuses = refuse refl

-- too early: a task before it isn't done
pub retry_runs_too_early : Step nested_revert_plan (snapshot nested_revert_plan (reverse (take 1 nested_revert))) (by 0 (to 1 atom.Running)) → ⊥
unfolding is_before holds mark_after snapshot members symbol_value can_run can_revert refused ignores attempt answer resolution forced_attempt forced_again forced_reverted forced_resolution forced_retrying forced_revert forced_ignore forced_run forced_if_running is_active forced candidate_if_running choice calm_end end_of is_free is_still ends_task may_suspend reset
retry_runs_too_early = refuse refl

-- too early: its retry controller is before it
pub task_before_its_retry : Step three_attempts_plan (snapshot three_attempts_plan (reverse (take 1 three_attempts))) (by 0 (to 1 atom.Running)) → ⊥
unfolding is_before holds mark_after snapshot members symbol_value can_run can_revert refused ignores attempt answer resolution forced_attempt forced_again forced_reverted forced_resolution forced_retrying forced_revert forced_ignore forced_run forced_if_running is_active forced candidate_if_running choice calm_end end_of is_free is_still ends_task may_suspend reset
task_before_its_retry = refuse refl

-- forced first: an ignored task is still to be recorded
pub forced_goes_first : Step depth_neighbors_plan (snapshot depth_neighbors_plan (reverse (take 4 depth_neighbors))) (by 0 (to 3 atom.Running)) → ⊥
unfolding is_before holds mark_after snapshot members symbol_value can_run can_revert refused ignores attempt answer resolution forced_attempt forced_again forced_reverted forced_resolution forced_retrying forced_revert forced_ignore forced_run forced_if_running is_active forced candidate_if_running choice calm_end end_of is_free is_still ends_task may_suspend reset
forced_goes_first = refuse refl

-- suspending: nothing is forced then
pub forced_in_suspending : Step three_attempts_plan (snapshot three_attempts_plan (by 0 (flow_to flow.Suspending) ∷ reverse (take 5 three_attempts))) (by 0 (resolves 0 resolved.Retry)) → ⊥
unfolding is_before holds mark_after snapshot members symbol_value can_run can_revert refused ignores attempt answer resolution forced_attempt forced_again forced_reverted forced_resolution forced_retrying forced_revert forced_ignore forced_run forced_if_running is_active forced candidate_if_running choice calm_end end_of is_free is_still ends_task may_suspend reset
forced_in_suspending = refuse refl

-- a revert failed: nothing is forced then
pub forced_after_failed_revert : Step stays_undone_plan (snapshot stays_undone_plan (reverse (take 10 stays_undone))) (by 0 (resolves 0 resolved.RevertAll)) → ⊥
unfolding is_before holds mark_after snapshot members symbol_value can_run can_revert refused ignores attempt answer resolution forced_attempt forced_again forced_reverted forced_resolution forced_retrying forced_revert forced_ignore forced_run forced_if_running is_active forced candidate_if_running choice calm_end end_of is_free is_still ends_task may_suspend reset
forced_after_failed_revert = refuse refl
