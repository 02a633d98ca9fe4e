-- Worked runs with retry controllers.
use Rattle.std.specs.Prelude.{List, [], ◌∷◌, reverse, codes, false, Some, None, refl, drop}
use Rattle.std.specs.List.{between}
use Rattle.tf_values.specs.declared.value.Val.TheVariants as value
use Rattle.tf_flow.specs.declared.atoms.Provides.TheVariants as provides
use Rattle.tf_flow.specs.declared.atoms.RetryKind.TheVariants as retry
use Rattle.tf_flow.specs.declared.nested.FlowKind.TheVariants as kind
use Rattle.tf_states.specs.declared.record.Entry.{Entry}
use Rattle.tf_states.specs.declared.record.Failure.TheVariants as failure
use Rattle.tf_states.specs.declared.record.Kind.TheVariants as resolved
use Rattle.tf_states.specs.declared.state.AtomState.TheVariants as atom
use Rattle.tf_states.specs.declared.state.FlowState.TheVariants as flow
use Rattle.tf_model.specs.Plan.{Outline, is_before, holds}
use Rattle.tf_model.specs.History.{mark_after, snapshot}
use Rattle.tf_model.specs.Scope.{members, symbol_value}
use Rattle.tf_model.specs.Readiness.{can_run, can_revert, refused, ignores}
use Rattle.tf_model.specs.Retries.{attempt, answer, resolution}
use Rattle.tf_model.specs.Forced.{forced_attempt, forced_again, forced_reverted, forced_resolution, forced_retrying, forced_revert, forced_ignore, forced_run, forced_if_running, is_active, forced, candidate_if_running, choice, calm_end, end_of}
use Rattle.tf_model.specs.Steps.{is_free, is_still, ends_task, may_suspend, reset, LegalPast, Session, whole}
use Rattle.tf_model.proofs.RowWords.{number, echo, fail, fail_below, controller, flow_of_items, plan_of, by, to, gives, fails, flow_to, resolves, force, take_up, finish, turn, end}

-- a task that fails below 3 is tried three times
abbrev pub three_attempts_plan : Outline
three_attempts_plan = plan_of (flow_of_items kind.Linear (codes "main") (controller (codes "r") (retry.Times 3 false) [] [] (provides.Whole (codes "n"))) (fail_below (codes "t") 3 ∷ []))

abbrev pub three_attempts : List Entry
three_attempts =
    by 0 (flow_to flow.Running)
    ∷ by 0 (to 0 atom.Running)
    ∷ by 0 (gives 0 (number 1))
    ∷ by 0 (to 1 atom.Running)
    ∷ by 0 (fails 1 (failure.Raised (codes "1 below 3")))
    ∷ by 0 (resolves 0 resolved.Retry)
    ∷ by 0 (to 1 atom.Reverting)
    ∷ by 0 (to 1 atom.Reverted)
    ∷ by 0 (to 0 atom.Retrying)
    ∷ by 0 (to 1 atom.Pending)
    ∷ by 0 (to 0 atom.Running)
    ∷ by 0 (gives 0 (number 2))
    ∷ by 0 (to 1 atom.Running)
    ∷ by 0 (fails 1 (failure.Raised (codes "2 below 3")))
    ∷ by 0 (resolves 0 resolved.Retry)
    ∷ by 0 (to 1 atom.Reverting)
    ∷ by 0 (to 1 atom.Reverted)
    ∷ by 0 (to 0 atom.Retrying)
    ∷ by 0 (to 1 atom.Pending)
    ∷ by 0 (to 0 atom.Running)
    ∷ by 0 (gives 0 (number 3))
    ∷ by 0 (to 1 atom.Running)
    ∷ by 0 (gives 1 (number 3))
    ∷ by 0 (flow_to flow.Success)
    ∷ []

pub three_attempts_legal : LegalPast three_attempts_plan (reverse three_attempts)
unfolding is_before holds mark_after snapshot members symbol_value can_run can_revert refused ignores attempt answer resolution forced_attempt forced_again forced_reverted forced_resolution forced_retrying forced_revert forced_ignore forced_run forced_if_running is_active forced candidate_if_running choice calm_end end_of is_free is_still ends_task may_suspend reset
three_attempts_legal = (
  end refl refl refl,
  (
    finish refl refl,
    (
      take_up refl refl refl,
      (
        force refl refl,
        (
          force refl refl,
          (
            force refl refl,
            (
              force refl refl,
              (
                finish refl refl,
                (
                  take_up refl refl refl,
                  (
                    force refl refl,
                    (
                      finish refl refl,
                      (
                        take_up refl refl refl,
                        (
                          force refl refl,
                          (
                            force refl refl,
                            (
                              force refl refl,
                              (
                                force refl refl,
                                (
                                  finish refl refl,
                                  (
                                    take_up refl refl refl,
                                    (
                                      force refl refl,
                                      (
                                        finish refl refl,
                                        (
                                          take_up refl refl refl,
                                          (
                                            force refl refl,
                                            (
                                              force refl refl,
                                              (turn refl refl, tt),
                                            ),
                                          ),
                                        ),
                                      ),
                                    ),
                                  ),
                                ),
                              ),
                            ),
                          ),
                        ),
                      ),
                    ),
                  ),
                ),
              ),
            ),
          ),
        ),
      ),
    ),
  ),
)

pub three_attempts_session : Session three_attempts_plan [] (reverse (drop 0 three_attempts)) (Some flow.Success)
unfolding is_before holds mark_after snapshot members symbol_value can_run can_revert refused ignores attempt answer resolution forced_attempt forced_again forced_reverted forced_resolution forced_retrying forced_revert forced_ignore forced_run forced_if_running is_active forced candidate_if_running choice calm_end end_of is_free is_still ends_task may_suspend reset
three_attempts_session = whole 0 flow.Success (reverse (between 1 23 three_attempts)) refl refl refl three_attempts_legal

-- with one attempt its failure reverts the flow
abbrev pub one_attempt_plan : Outline
one_attempt_plan = plan_of (flow_of_items kind.Linear (codes "main") (controller (codes "r") (retry.Times 1 false) [] [] (provides.Whole (codes "n"))) (fail_below (codes "t") 3 ∷ []))

abbrev pub one_attempt : List Entry
one_attempt =
    by 0 (flow_to flow.Running)
    ∷ by 0 (to 0 atom.Running)
    ∷ by 0 (gives 0 (number 1))
    ∷ by 0 (to 1 atom.Running)
    ∷ by 0 (fails 1 (failure.Raised (codes "1 below 3")))
    ∷ by 0 (resolves 0 resolved.Revert)
    ∷ by 0 (to 1 atom.Reverting)
    ∷ by 0 (to 1 atom.Reverted)
    ∷ by 0 (to 0 atom.Reverting)
    ∷ by 0 (to 0 atom.Reverted)
    ∷ by 0 (flow_to flow.Reverted)
    ∷ []

pub one_attempt_legal : LegalPast one_attempt_plan (reverse one_attempt)
unfolding is_before holds mark_after snapshot members symbol_value can_run can_revert refused ignores attempt answer resolution forced_attempt forced_again forced_reverted forced_resolution forced_retrying forced_revert forced_ignore forced_run forced_if_running is_active forced candidate_if_running choice calm_end end_of is_free is_still ends_task may_suspend reset
one_attempt_legal = (
  end refl refl refl,
  (
    force refl refl,
    (
      force refl refl,
      (
        finish refl refl,
        (
          take_up refl refl refl,
          (
            force refl refl,
            (
              finish refl refl,
              (
                take_up refl refl refl,
                (
                  force refl refl,
                  (
                    force refl refl,
                    (turn refl refl, tt),
                  ),
                ),
              ),
            ),
          ),
        ),
      ),
    ),
  ),
)

pub one_attempt_session : Session one_attempt_plan [] (reverse (drop 0 one_attempt)) (Some flow.Reverted)
unfolding is_before holds mark_after snapshot members symbol_value can_run can_revert refused ignores attempt answer resolution forced_attempt forced_again forced_reverted forced_resolution forced_retrying forced_revert forced_ignore forced_run forced_if_running is_active forced candidate_if_running choice calm_end end_of is_free is_still ends_task may_suspend reset
one_attempt_session = whole 0 flow.Reverted (reverse (between 1 10 one_attempt)) refl refl refl one_attempt_legal

-- a nested flow is reverted alone
abbrev pub nested_revert_plan : Outline
nested_revert_plan = plan_of (flow_of_items kind.Linear (codes "main") None (echo (codes "a") (number 1) ∷ flow_of_items kind.Linear (codes "s") (controller (codes "v") retry.AlwaysRevert [] [] provides.Nothing) (fail (codes "b") (codes "no") ∷ []) ∷ []))

abbrev pub nested_revert : List Entry
nested_revert =
    by 0 (flow_to flow.Running)
    ∷ by 0 (to 0 atom.Running)
    ∷ by 0 (gives 0 (number 1))
    ∷ by 0 (to 1 atom.Running)
    ∷ by 0 (gives 1 value.Nothing)
    ∷ by 0 (to 2 atom.Running)
    ∷ by 0 (fails 2 (failure.Raised (codes "no")))
    ∷ by 0 (resolves 1 resolved.Revert)
    ∷ by 0 (to 2 atom.Reverting)
    ∷ by 0 (to 2 atom.Reverted)
    ∷ by 0 (to 1 atom.Reverting)
    ∷ by 0 (to 1 atom.Reverted)
    ∷ by 0 (flow_to flow.Reverted)
    ∷ []

pub nested_revert_legal : LegalPast nested_revert_plan (reverse nested_revert)
unfolding is_before holds mark_after snapshot members symbol_value can_run can_revert refused ignores attempt answer resolution forced_attempt forced_again forced_reverted forced_resolution forced_retrying forced_revert forced_ignore forced_run forced_if_running is_active forced candidate_if_running choice calm_end end_of is_free is_still ends_task may_suspend reset
nested_revert_legal = (
  end refl refl refl,
  (
    force refl refl,
    (
      force refl refl,
      (
        finish refl refl,
        (
          take_up refl refl refl,
          (
            force refl refl,
            (
              finish refl refl,
              (
                take_up refl refl refl,
                (
                  force refl refl,
                  (
                    force refl refl,
                    (
                      finish refl refl,
                      (
                        take_up refl refl refl,
                        (turn refl refl, tt),
                      ),
                    ),
                  ),
                ),
              ),
            ),
          ),
        ),
      ),
    ),
  ),
)

pub nested_revert_session : Session nested_revert_plan [] (reverse (drop 0 nested_revert)) (Some flow.Reverted)
unfolding is_before holds mark_after snapshot members symbol_value can_run can_revert refused ignores attempt answer resolution forced_attempt forced_again forced_reverted forced_resolution forced_retrying forced_revert forced_ignore forced_run forced_if_running is_active forced candidate_if_running choice calm_end end_of is_free is_still ends_task may_suspend reset
nested_revert_session = whole 0 flow.Reverted (reverse (between 1 12 nested_revert)) refl refl refl nested_revert_legal
