-- Worked runs with retry controllers in flows of flows.
use Rattle.std.specs.Prelude.{List, [], ◌∷◌, reverse, codes, false, Some, None, refl, drop}
use Rattle.std.specs.List.{between}
use Rattle.tf_values.specs.declared.value.Val.TheVariants as value
use Rattle.tf_flow.specs.declared.atoms.Provides.TheVariants as provides
use Rattle.tf_flow.specs.declared.atoms.RetryKind.TheVariants as retry
use Rattle.tf_flow.specs.declared.nested.FlowKind.TheVariants as kind
use Rattle.tf_states.specs.declared.record.Entry.{Entry}
use Rattle.tf_states.specs.declared.record.Failure.TheVariants as failure
use Rattle.tf_states.specs.declared.record.Kind.TheVariants as resolved
use Rattle.tf_states.specs.declared.state.AtomState.TheVariants as atom
use Rattle.tf_states.specs.declared.state.FlowState.TheVariants as flow
use Rattle.tf_model.specs.Plan.{Outline, is_before, holds}
use Rattle.tf_model.specs.History.{mark_after, snapshot}
use Rattle.tf_model.specs.Scope.{members, symbol_value}
use Rattle.tf_model.specs.Readiness.{can_run, can_revert, refused, ignores}
use Rattle.tf_model.specs.Retries.{attempt, answer, resolution}
use Rattle.tf_model.specs.Forced.{forced_attempt, forced_again, forced_reverted, forced_resolution, forced_retrying, forced_revert, forced_ignore, forced_run, forced_if_running, is_active, forced, candidate_if_running, choice, calm_end, end_of}
use Rattle.tf_model.specs.Steps.{is_free, is_still, ends_task, may_suspend, reset, LegalPast, Session, whole}
use Rattle.tf_model.proofs.RowWords.{number, same_arg, bound_to, echo, echo_of, fail, controller, flow_of_items, plan_of, deferring_plan_of, by, to, gives, fails, flow_to, resolves, force, take_up, finish, turn, end}

-- where reverts are deferred, the whole flow is reverted
abbrev pub deferred_revert_plan : Outline
deferred_revert_plan = deferring_plan_of (flow_of_items kind.Linear (codes "main") None (echo (codes "a") (number 1) ∷ flow_of_items kind.Linear (codes "s") (controller (codes "v") retry.AlwaysRevert [] [] provides.Nothing) (fail (codes "b") (codes "no") ∷ []) ∷ []))

abbrev pub deferred_revert : List Entry
deferred_revert =
    by 0 (flow_to flow.Running)
    ∷ by 0 (to 0 atom.Running)
    ∷ by 0 (gives 0 (number 1))
    ∷ by 0 (to 1 atom.Running)
    ∷ by 0 (gives 1 value.Nothing)
    ∷ by 0 (to 2 atom.Running)
    ∷ by 0 (fails 2 (failure.Raised (codes "no")))
    ∷ by 0 (resolves 0 resolved.RevertAll)
    ∷ by 0 (to 2 atom.Reverting)
    ∷ by 0 (to 2 atom.Reverted)
    ∷ by 0 (to 1 atom.Reverting)
    ∷ by 0 (to 1 atom.Reverted)
    ∷ by 0 (to 0 atom.Reverting)
    ∷ by 0 (to 0 atom.Reverted)
    ∷ by 0 (flow_to flow.Reverted)
    ∷ []

pub deferred_revert_legal : LegalPast deferred_revert_plan (reverse deferred_revert)
unfolding is_before holds mark_after snapshot members symbol_value can_run can_revert refused ignores attempt answer resolution forced_attempt forced_again forced_reverted forced_resolution forced_retrying forced_revert forced_ignore forced_run forced_if_running is_active forced candidate_if_running choice calm_end end_of is_free is_still ends_task may_suspend reset
deferred_revert_legal = (
  end refl refl refl,
  (
    finish refl refl,
    (
      take_up refl refl refl,
      (
        force refl refl,
        (
          force refl refl,
          (
            finish refl refl,
            (
              take_up refl refl refl,
              (
                force refl refl,
                (
                  finish refl refl,
                  (
                    take_up refl refl refl,
                    (
                      force refl refl,
                      (
                        force refl refl,
                        (
                          finish refl refl,
                          (
                            take_up refl refl refl,
                            (turn refl refl, tt),
                          ),
                        ),
                      ),
                    ),
                  ),
                ),
              ),
            ),
          ),
        ),
      ),
    ),
  ),
)

pub deferred_revert_session : Session deferred_revert_plan [] (reverse (drop 0 deferred_revert)) (Some flow.Reverted)
unfolding is_before holds mark_after snapshot members symbol_value can_run can_revert refused ignores attempt answer resolution forced_attempt forced_again forced_reverted forced_resolution forced_retrying forced_revert forced_ignore forced_run forced_if_running is_active forced candidate_if_running choice calm_end end_of is_free is_still ends_task may_suspend reset
deferred_revert_session = whole 0 flow.Reverted (reverse (between 1 14 deferred_revert)) refl refl refl deferred_revert_legal

-- an inner retry controller has no item, so the outer one tries again, and gives up
abbrev pub inner_exhausted_plan : Outline
inner_exhausted_plan = plan_of (flow_of_items kind.Linear (codes "main") (controller (codes "o") (retry.Times 2 false) [] [] provides.Nothing) (flow_of_items kind.Linear (codes "s") (controller (codes "p") (retry.Parameterized false) (same_arg (codes "values") ∷ []) (bound_to (codes "values") (value.List []) ∷ []) provides.Nothing) (echo (codes "t") (number 1) ∷ []) ∷ []))

abbrev pub inner_exhausted : List Entry
inner_exhausted =
    by 0 (flow_to flow.Running)
    ∷ by 0 (to 0 atom.Running)
    ∷ by 0 (gives 0 (number 1))
    ∷ by 0 (to 1 atom.Running)
    ∷ by 0 (fails 1 failure.Exhausted)
    ∷ by 0 (resolves 0 resolved.Retry)
    ∷ by 0 (to 1 atom.Reverting)
    ∷ by 0 (to 1 atom.Reverted)
    ∷ by 0 (to 0 atom.Retrying)
    ∷ by 0 (to 1 atom.Pending)
    ∷ by 0 (to 0 atom.Running)
    ∷ by 0 (gives 0 (number 2))
    ∷ by 0 (to 1 atom.Running)
    ∷ by 0 (fails 1 failure.Exhausted)
    ∷ by 0 (resolves 0 resolved.Revert)
    ∷ by 0 (to 1 atom.Reverting)
    ∷ by 0 (to 1 atom.Reverted)
    ∷ by 0 (to 0 atom.Reverting)
    ∷ by 0 (to 0 atom.Reverted)
    ∷ by 0 (flow_to flow.Reverted)
    ∷ []

pub inner_exhausted_legal : LegalPast inner_exhausted_plan (reverse inner_exhausted)
unfolding is_before holds mark_after snapshot members symbol_value can_run can_revert refused ignores attempt answer resolution forced_attempt forced_again forced_reverted forced_resolution forced_retrying forced_revert forced_ignore forced_run forced_if_running is_active forced candidate_if_running choice calm_end end_of is_free is_still ends_task may_suspend reset
inner_exhausted_legal = (
  end refl refl refl,
  (
    force refl refl,
    (
      force refl refl,
      (
        force refl refl,
        (
          force refl refl,
          (
            force refl refl,
            (
              force refl refl,
              (
                force refl refl,
                (
                  force refl refl,
                  (
                    force refl refl,
                    (
                      force refl refl,
                      (
                        force refl refl,
                        (
                          force refl refl,
                          (
                            force refl refl,
                            (
                              force refl refl,
                              (
                                force refl refl,
                                (
                                  force refl refl,
                                  (
                                    force refl refl,
                                    (
                                      force refl refl,
                                      (turn refl refl, tt),
                                    ),
                                  ),
                                ),
                              ),
                            ),
                          ),
                        ),
                      ),
                    ),
                  ),
                ),
              ),
            ),
          ),
        ),
      ),
    ),
  ),
)

pub inner_exhausted_session : Session inner_exhausted_plan [] (reverse (drop 0 inner_exhausted)) (Some flow.Reverted)
unfolding is_before holds mark_after snapshot members symbol_value can_run can_revert refused ignores attempt answer resolution forced_attempt forced_again forced_reverted forced_resolution forced_retrying forced_revert forced_ignore forced_run forced_if_running is_active forced candidate_if_running choice calm_end end_of is_free is_still ends_task may_suspend reset
inner_exhausted_session = whole 0 flow.Reverted (reverse (between 1 19 inner_exhausted)) refl refl refl inner_exhausted_legal

-- a nested flow fails, and the retry controller around it tries the whole again
abbrev pub tried_again_around_plan : Outline
tried_again_around_plan = plan_of (flow_of_items kind.Linear (codes "main") (controller (codes "r") (retry.Times 2 false) [] [] (provides.Whole (codes "k"))) (echo (codes "a") (number 1) ∷ flow_of_items kind.Linear (codes "n") (controller (codes "s") retry.AlwaysRevert [] [] provides.Nothing) (echo_of (codes "b") (codes "k") ∷ []) ∷ []))

abbrev pub tried_again_around : List Entry
tried_again_around =
    by 0 (flow_to flow.Running)
    ∷ by 0 (to 0 atom.Running)
    ∷ by 0 (gives 0 (number 1))
    ∷ by 0 (to 1 atom.Running)
    ∷ by 0 (gives 1 (number 1))
    ∷ by 0 (to 2 atom.Running)
    ∷ by 0 (gives 2 value.Nothing)
    ∷ by 0 (to 3 atom.Running)
    ∷ by 0 (fails 3 (failure.Raised (codes "no")))
    ∷ by 0 (resolves 0 resolved.Retry)
    ∷ by 0 (to 3 atom.Reverting)
    ∷ by 0 (to 3 atom.Reverted)
    ∷ by 0 (to 2 atom.Reverting)
    ∷ by 0 (to 2 atom.Reverted)
    ∷ by 0 (to 1 atom.Reverting)
    ∷ by 0 (to 1 atom.Reverted)
    ∷ by 0 (to 0 atom.Retrying)
    ∷ by 0 (to 1 atom.Pending)
    ∷ by 0 (to 2 atom.Pending)
    ∷ by 0 (to 3 atom.Pending)
    ∷ by 0 (to 0 atom.Running)
    ∷ by 0 (gives 0 (number 2))
    ∷ by 0 (to 1 atom.Running)
    ∷ by 0 (gives 1 (number 1))
    ∷ by 0 (to 2 atom.Running)
    ∷ by 0 (gives 2 value.Nothing)
    ∷ by 0 (to 3 atom.Running)
    ∷ by 0 (gives 3 (number 2))
    ∷ by 0 (flow_to flow.Success)
    ∷ []

pub tried_again_around_legal : LegalPast tried_again_around_plan (reverse tried_again_around)
unfolding is_before holds mark_after snapshot members symbol_value can_run can_revert refused ignores attempt answer resolution forced_attempt forced_again forced_reverted forced_resolution forced_retrying forced_revert forced_ignore forced_run forced_if_running is_active forced candidate_if_running choice calm_end end_of is_free is_still ends_task may_suspend reset
tried_again_around_legal = (
  end refl refl refl,
  (
    finish refl refl,
    (
      take_up refl refl refl,
      (
        force refl refl,
        (
          force refl refl,
          (
            finish refl refl,
            (
              take_up refl refl refl,
              (
                force refl refl,
                (
                  force refl refl,
                  (
                    force refl refl,
                    (
                      force refl refl,
                      (
                        force refl refl,
                        (
                          force refl refl,
                          (
                            finish refl refl,
                            (
                              take_up refl refl refl,
                              (
                                force refl refl,
                                (
                                  force refl refl,
                                  (
                                    finish refl refl,
                                    (
                                      take_up refl refl refl,
                                      (
                                        force refl refl,
                                        (
                                          finish refl refl,
                                          (
                                            take_up refl refl refl,
                                            (
                                              force refl refl,
                                              (
                                                force refl refl,
                                                (
                                                  finish refl refl,
                                                  (
                                                    take_up refl refl refl,
                                                    (
                                                      force refl refl,
                                                      (
                                                        force refl refl,
                                                        (turn refl refl, tt),
                                                      ),
                                                    ),
                                                  ),
                                                ),
                                              ),
                                            ),
                                          ),
                                        ),
                                      ),
                                    ),
                                  ),
                                ),
                              ),
                            ),
                          ),
                        ),
                      ),
                    ),
                  ),
                ),
              ),
            ),
          ),
        ),
      ),
    ),
  ),
)

pub tried_again_around_session : Session tried_again_around_plan [] (reverse (drop 0 tried_again_around)) (Some flow.Success)
unfolding is_before holds mark_after snapshot members symbol_value can_run can_revert refused ignores attempt answer resolution forced_attempt forced_again forced_reverted forced_resolution forced_retrying forced_revert forced_ignore forced_run forced_if_running is_active forced candidate_if_running choice calm_end end_of is_free is_still ends_task may_suspend reset
tried_again_around_session = whole 0 flow.Success (reverse (between 1 28 tried_again_around)) refl refl refl tried_again_around_legal
