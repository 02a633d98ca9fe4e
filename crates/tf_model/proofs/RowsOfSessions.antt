-- Worked runs of several sessions, and of several hands.
use Rattle.std.specs.Prelude.{List, [], ◌∷◌, reverse, codes, false, Some, None, refl, take, drop}
use Rattle.std.specs.List.{between}
use Rattle.tf_flow.specs.declared.atoms.Provides.TheVariants as provides
use Rattle.tf_flow.specs.declared.atoms.RetryKind.TheVariants as retry
use Rattle.tf_flow.specs.declared.nested.FlowKind.TheVariants as kind
use Rattle.tf_states.specs.declared.record.Entry.{Entry}
use Rattle.tf_states.specs.declared.record.Failure.TheVariants as failure
use Rattle.tf_states.specs.declared.record.Kind.TheVariants as resolved
use Rattle.tf_states.specs.declared.state.AtomState.TheVariants as atom
use Rattle.tf_states.specs.declared.state.FlowState.TheVariants as flow
use Rattle.tf_model.specs.Plan.{Outline, is_before, holds}
use Rattle.tf_model.specs.History.{mark_after, snapshot}
use Rattle.tf_model.specs.Scope.{members, symbol_value}
use Rattle.tf_model.specs.Readiness.{can_run, can_revert, refused, ignores}
use Rattle.tf_model.specs.Retries.{attempt, answer, resolution}
use Rattle.tf_model.specs.Forced.{forced_attempt, forced_again, forced_reverted, forced_resolution, forced_retrying, forced_revert, forced_ignore, forced_run, forced_if_running, is_active, forced, candidate_if_running, choice, calm_end, end_of}
use Rattle.tf_model.specs.Steps.{is_free, is_still, ends_task, may_suspend, reset, LegalPast, Session, whole, halted, entered, already_ended}
use Rattle.tf_model.proofs.HistoryLemmas.{legal_before}
use Rattle.tf_model.proofs.RowWords.{number, echo, fail_below, controller, flow_of_items, plan_of, by, to, gives, fails, flow_to, resolves, again, force, take_up, finish, turn, end, suspend}

-- a run is suspended, and a later one goes on
abbrev pub stopped_and_resumed_plan : Outline
stopped_and_resumed_plan = plan_of (flow_of_items kind.Linear (codes "main") None (echo (codes "a") (number 1) ∷ echo (codes "b") (number 2) ∷ echo (codes "c") (number 3) ∷ []))

abbrev pub stopped_and_resumed : List Entry
stopped_and_resumed =
    by 0 (flow_to flow.Running)
    ∷ by 0 (to 0 atom.Running)
    ∷ by 0 (gives 0 (number 1))
    ∷ by 0 (to 1 atom.Running)
    ∷ by 0 (gives 1 (number 2))
    ∷ by 0 (flow_to flow.Suspending)
    ∷ by 0 (flow_to flow.Suspended)
    ∷ by 0 (flow_to flow.Running)
    ∷ by 0 (to 2 atom.Running)
    ∷ by 0 (gives 2 (number 3))
    ∷ by 0 (flow_to flow.Success)
    ∷ []

pub stopped_and_resumed_legal : LegalPast stopped_and_resumed_plan (reverse stopped_and_resumed)
unfolding is_before holds mark_after snapshot members symbol_value can_run can_revert refused ignores attempt answer resolution forced_attempt forced_again forced_reverted forced_resolution forced_retrying forced_revert forced_ignore forced_run forced_if_running is_active forced candidate_if_running choice calm_end end_of is_free is_still ends_task may_suspend reset
stopped_and_resumed_legal = (
  end refl refl refl,
  (
    finish refl refl,
    (
      take_up refl refl refl,
      (
        turn refl refl,
        (
          suspend refl refl refl,
          (
            turn refl refl,
            (
              finish refl refl,
              (
                take_up refl refl refl,
                (
                  finish refl refl,
                  (
                    take_up refl refl refl,
                    (turn refl refl, tt),
                  ),
                ),
              ),
            ),
          ),
        ),
      ),
    ),
  ),
)

pub stopped_and_resumed_session : Session stopped_and_resumed_plan (reverse (take 7 stopped_and_resumed)) (reverse (drop 7 stopped_and_resumed)) (Some flow.Success)
unfolding is_before holds mark_after snapshot members symbol_value can_run can_revert refused ignores attempt answer resolution forced_attempt forced_again forced_reverted forced_resolution forced_retrying forced_revert forced_ignore forced_run forced_if_running is_active forced candidate_if_running choice calm_end end_of is_free is_still ends_task may_suspend reset
stopped_and_resumed_session = whole 0 flow.Success (reverse (between 8 10 stopped_and_resumed)) refl refl refl stopped_and_resumed_legal

-- a run is halted before the end of a task is recorded, and the next one restarts it
abbrev pub crash_and_restart : List Entry
crash_and_restart =
    by 0 (flow_to flow.Running)
    ∷ by 0 (to 0 atom.Running)
    ∷ by 0 (gives 0 (number 1))
    ∷ by 0 (to 1 atom.Running)
    ∷ by 0 (flow_to flow.Resuming)
    ∷ by 0 (flow_to flow.Suspended)
    ∷ by 0 (flow_to flow.Running)
    ∷ by 0 (again 1)
    ∷ by 0 (gives 1 (number 2))
    ∷ by 0 (to 2 atom.Running)
    ∷ by 0 (gives 2 (number 3))
    ∷ by 0 (flow_to flow.Success)
    ∷ []

pub crash_and_restart_legal : LegalPast stopped_and_resumed_plan (reverse crash_and_restart)
unfolding is_before holds mark_after snapshot members symbol_value can_run can_revert refused ignores attempt answer resolution forced_attempt forced_again forced_reverted forced_resolution forced_retrying forced_revert forced_ignore forced_run forced_if_running is_active forced candidate_if_running choice calm_end end_of is_free is_still ends_task may_suspend reset
crash_and_restart_legal = (
  end refl refl refl,
  (
    finish refl refl,
    (
      take_up refl refl refl,
      (
        finish refl refl,
        (
          take_up refl refl refl,
          (
            turn refl refl,
            (
              turn refl refl,
              (
                turn refl refl,
                (
                  take_up refl refl refl,
                  (
                    finish refl refl,
                    (
                      take_up refl refl refl,
                      (turn refl refl, tt),
                    ),
                  ),
                ),
              ),
            ),
          ),
        ),
      ),
    ),
  ),
)

pub crash_and_restart_session : Session stopped_and_resumed_plan (reverse (take 4 crash_and_restart)) (reverse (drop 4 crash_and_restart)) (Some flow.Success)
unfolding is_before holds mark_after snapshot members symbol_value can_run can_revert refused ignores attempt answer resolution forced_attempt forced_again forced_reverted forced_resolution forced_retrying forced_revert forced_ignore forced_run forced_if_running is_active forced candidate_if_running choice calm_end end_of is_free is_still ends_task may_suspend reset
crash_and_restart_session = whole 0 flow.Success (reverse (between 7 11 crash_and_restart)) refl refl refl crash_and_restart_legal

-- two hands, whose tasks both fail: one resolution covers both failures
abbrev pub one_resolution_plan : Outline
one_resolution_plan = plan_of (flow_of_items kind.Unordered (codes "main") (controller (codes "r") (retry.Times 2 false) [] [] (provides.Whole (codes "n"))) (fail_below (codes "t1") 2 ∷ fail_below (codes "t2") 2 ∷ []))

abbrev pub one_resolution : List Entry
one_resolution =
    by 0 (flow_to flow.Running)
    ∷ by 0 (to 0 atom.Running)
    ∷ by 0 (gives 0 (number 1))
    ∷ by 0 (to 1 atom.Running)
    ∷ by 1 (to 2 atom.Running)
    ∷ by 0 (fails 1 (failure.Raised (codes "1 below 2")))
    ∷ by 0 (resolves 0 resolved.Retry)
    ∷ by 0 (to 1 atom.Reverting)
    ∷ by 1 (fails 2 (failure.Raised (codes "1 below 2")))
    ∷ by 1 (to 2 atom.Reverting)
    ∷ by 0 (to 1 atom.Reverted)
    ∷ by 1 (to 2 atom.Reverted)
    ∷ by 1 (to 0 atom.Retrying)
    ∷ by 1 (to 1 atom.Pending)
    ∷ by 1 (to 2 atom.Pending)
    ∷ by 1 (to 0 atom.Running)
    ∷ by 1 (gives 0 (number 2))
    ∷ by 1 (to 1 atom.Running)
    ∷ by 0 (to 2 atom.Running)
    ∷ by 1 (gives 1 (number 2))
    ∷ by 0 (gives 2 (number 2))
    ∷ by 0 (flow_to flow.Success)
    ∷ []

pub one_resolution_legal : LegalPast one_resolution_plan (reverse one_resolution)
unfolding is_before holds mark_after snapshot members symbol_value can_run can_revert refused ignores attempt answer resolution forced_attempt forced_again forced_reverted forced_resolution forced_retrying forced_revert forced_ignore forced_run forced_if_running is_active forced candidate_if_running choice calm_end end_of is_free is_still ends_task may_suspend reset
one_resolution_legal = (
  end refl refl refl,
  (
    finish refl refl,
    (
      finish refl refl,
      (
        take_up refl refl refl,
        (
          take_up refl refl refl,
          (
            force refl refl,
            (
              force refl refl,
              (
                force refl refl,
                (
                  force refl refl,
                  (
                    force refl refl,
                    (
                      finish refl refl,
                      (
                        finish refl refl,
                        (
                          take_up refl refl refl,
                          (
                            finish refl refl,
                            (
                              take_up refl refl refl,
                              (
                                force refl refl,
                                (
                                  finish refl refl,
                                  (
                                    take_up refl refl refl,
                                    (
                                      take_up refl refl refl,
                                      (
                                        force refl refl,
                                        (
                                          force refl refl,
                                          (turn refl refl, tt),
                                        ),
                                      ),
                                    ),
                                  ),
                                ),
                              ),
                            ),
                          ),
                        ),
                      ),
                    ),
                  ),
                ),
              ),
            ),
          ),
        ),
      ),
    ),
  ),
)

pub one_resolution_session : Session one_resolution_plan [] (reverse (drop 0 one_resolution)) (Some flow.Success)
unfolding is_before holds mark_after snapshot members symbol_value can_run can_revert refused ignores attempt answer resolution forced_attempt forced_again forced_reverted forced_resolution forced_retrying forced_revert forced_ignore forced_run forced_if_running is_active forced candidate_if_running choice calm_end end_of is_free is_still ends_task may_suspend reset
one_resolution_session = whole 0 flow.Success (reverse (between 1 21 one_resolution)) refl refl refl one_resolution_legal

-- the run before the resumed one stopped too
pub stopped_session : Session stopped_and_resumed_plan [] (reverse (take 7 stopped_and_resumed)) (Some flow.Suspended)
unfolding is_before holds mark_after snapshot members symbol_value can_run can_revert refused ignores attempt answer resolution forced_attempt forced_again forced_reverted forced_resolution forced_retrying forced_revert forced_ignore forced_run forced_if_running is_active forced candidate_if_running choice calm_end end_of is_free is_still ends_task may_suspend reset
stopped_session = whole 0 flow.Suspended (reverse (between 1 6 stopped_and_resumed)) refl refl refl (legal_before stopped_and_resumed_plan (reverse (drop 7 stopped_and_resumed)) (reverse (take 7 stopped_and_resumed)) stopped_and_resumed_legal)

-- the run before the restart was halted
pub crashed_session : Session stopped_and_resumed_plan [] (reverse (take 4 crash_and_restart)) None
unfolding is_before holds mark_after snapshot members symbol_value can_run can_revert refused ignores attempt answer resolution forced_attempt forced_again forced_reverted forced_resolution forced_retrying forced_revert forced_ignore forced_run forced_if_running is_active forced candidate_if_running choice calm_end end_of is_free is_still ends_task may_suspend reset
crashed_session = halted (reverse (between 1 4 crash_and_restart)) refl refl (legal_before stopped_and_resumed_plan (reverse (drop 4 crash_and_restart)) (reverse (take 4 crash_and_restart)) crash_and_restart_legal)

-- a run that was halted between the entries with which it entered
pub halted_as_it_entered : Session stopped_and_resumed_plan (reverse (take 4 crash_and_restart)) (reverse (between 4 6 crash_and_restart)) None
unfolding is_before holds mark_after snapshot members symbol_value can_run can_revert refused ignores attempt answer resolution forced_attempt forced_again forced_reverted forced_resolution forced_retrying forced_revert forced_ignore forced_run forced_if_running is_active forced candidate_if_running choice calm_end end_of is_free is_still ends_task may_suspend reset
halted_as_it_entered = entered (between 4 6 crash_and_restart) (drop 6 (take 7 crash_and_restart)) refl (legal_before stopped_and_resumed_plan (reverse (drop 6 crash_and_restart)) (reverse (take 6 crash_and_restart)) crash_and_restart_legal)

-- a run of a flow that has ended records nothing
pub ended_already : Session stopped_and_resumed_plan (reverse stopped_and_resumed) [] (Some flow.Success)
unfolding is_before holds mark_after snapshot members symbol_value can_run can_revert refused ignores attempt answer resolution forced_attempt forced_again forced_reverted forced_resolution forced_retrying forced_revert forced_ignore forced_run forced_if_running is_active forced candidate_if_running choice calm_end end_of is_free is_still ends_task may_suspend reset
ended_already = already_ended refl stopped_and_resumed_legal
