-- Worked runs of tasks in a line.
use Rattle.std.specs.Prelude.{List, [], ◌∷◌, reverse, codes, Some, None, refl, drop}
use Rattle.std.specs.List.{between}
use Rattle.tf_values.specs.declared.value.Val.TheVariants as value
use Rattle.tf_flow.specs.declared.nested.FlowKind.TheVariants as kind
use Rattle.tf_states.specs.declared.record.Entry.{Entry}
use Rattle.tf_states.specs.declared.record.Failure.TheVariants as failure
use Rattle.tf_states.specs.declared.record.Kind.TheVariants as resolved
use Rattle.tf_states.specs.declared.state.AtomState.TheVariants as atom
use Rattle.tf_states.specs.declared.state.FlowState.TheVariants as flow
use Rattle.tf_model.specs.Plan.{Outline, is_before, holds}
use Rattle.tf_model.specs.History.{mark_after, snapshot}
use Rattle.tf_model.specs.Scope.{members, symbol_value}
use Rattle.tf_model.specs.Readiness.{can_run, can_revert, refused, ignores}
use Rattle.tf_model.specs.Retries.{attempt, answer, resolution}
use Rattle.tf_model.specs.Forced.{forced_attempt, forced_again, forced_reverted, forced_resolution, forced_retrying, forced_revert, forced_ignore, forced_run, forced_if_running, is_active, forced, candidate_if_running, choice, calm_end, end_of}
use Rattle.tf_model.specs.Steps.{is_free, is_still, ends_task, may_suspend, reset, LegalPast, Session, whole}
use Rattle.tf_model.proofs.RowWords.{number, echo, urgent, fail, flow_of_items, plan_of, by, to, gives, fails, flow_to, resolves, force, take_up, finish, turn, end, put_back}

-- two tasks in a line, of which each gives a value
abbrev pub two_echoes_plan : Outline
two_echoes_plan = plan_of (flow_of_items kind.Linear (codes "main") None (echo (codes "a") (number 1) ∷ echo (codes "b") (value.Text (codes "two")) ∷ []))

abbrev pub two_echoes : List Entry
two_echoes =
    by 0 (flow_to flow.Running)
    ∷ by 0 (to 0 atom.Running)
    ∷ by 0 (gives 0 (number 1))
    ∷ by 0 (to 1 atom.Running)
    ∷ by 0 (gives 1 (value.Text (codes "two")))
    ∷ by 0 (flow_to flow.Success)
    ∷ []

pub two_echoes_legal : LegalPast two_echoes_plan (reverse two_echoes)
unfolding is_before holds mark_after snapshot members symbol_value can_run can_revert refused ignores attempt answer resolution forced_attempt forced_again forced_reverted forced_resolution forced_retrying forced_revert forced_ignore forced_run forced_if_running is_active forced candidate_if_running choice calm_end end_of is_free is_still ends_task may_suspend reset
two_echoes_legal = (
  end refl refl refl,
  (
    finish refl refl,
    (
      take_up refl refl refl,
      (
        finish refl refl,
        (
          take_up refl refl refl,
          (turn refl refl, tt),
        ),
      ),
    ),
  ),
)

pub two_echoes_session : Session two_echoes_plan [] (reverse (drop 0 two_echoes)) (Some flow.Success)
unfolding is_before holds mark_after snapshot members symbol_value can_run can_revert refused ignores attempt answer resolution forced_attempt forced_again forced_reverted forced_resolution forced_retrying forced_revert forced_ignore forced_run forced_if_running is_active forced candidate_if_running choice calm_end end_of is_free is_still ends_task may_suspend reset
two_echoes_session = whole 0 flow.Success (reverse (between 1 5 two_echoes)) refl refl refl two_echoes_legal

-- the last of three tasks fails, and all are reverted, the last one first
abbrev pub reverted_in_reverse_plan : Outline
reverted_in_reverse_plan = plan_of (flow_of_items kind.Linear (codes "main") None (echo (codes "a") (number 1) ∷ echo (codes "b") (number 2) ∷ fail (codes "c") (codes "boom") ∷ []))

abbrev pub reverted_in_reverse : List Entry
reverted_in_reverse =
    by 0 (flow_to flow.Running)
    ∷ by 0 (to 0 atom.Running)
    ∷ by 0 (gives 0 (number 1))
    ∷ by 0 (to 1 atom.Running)
    ∷ by 0 (gives 1 (number 2))
    ∷ by 0 (to 2 atom.Running)
    ∷ by 0 (fails 2 (failure.Raised (codes "boom")))
    ∷ by 0 (resolves 0 resolved.RevertAll)
    ∷ by 0 (to 2 atom.Reverting)
    ∷ by 0 (to 2 atom.Reverted)
    ∷ by 0 (to 1 atom.Reverting)
    ∷ by 0 (to 1 atom.Reverted)
    ∷ by 0 (to 0 atom.Reverting)
    ∷ by 0 (to 0 atom.Reverted)
    ∷ by 0 (flow_to flow.Reverted)
    ∷ []

pub reverted_in_reverse_legal : LegalPast reverted_in_reverse_plan (reverse reverted_in_reverse)
unfolding is_before holds mark_after snapshot members symbol_value can_run can_revert refused ignores attempt answer resolution forced_attempt forced_again forced_reverted forced_resolution forced_retrying forced_revert forced_ignore forced_run forced_if_running is_active forced candidate_if_running choice calm_end end_of is_free is_still ends_task may_suspend reset
reverted_in_reverse_legal = (
  end refl refl refl,
  (
    finish refl refl,
    (
      take_up refl refl refl,
      (
        finish refl refl,
        (
          take_up refl refl refl,
          (
            finish refl refl,
            (
              take_up refl refl refl,
              (
                force refl refl,
                (
                  finish refl refl,
                  (
                    take_up refl refl refl,
                    (
                      finish refl refl,
                      (
                        take_up refl refl refl,
                        (
                          finish refl refl,
                          (
                            take_up refl refl refl,
                            (turn refl refl, tt),
                          ),
                        ),
                      ),
                    ),
                  ),
                ),
              ),
            ),
          ),
        ),
      ),
    ),
  ),
)

pub reverted_in_reverse_session : Session reverted_in_reverse_plan [] (reverse (drop 0 reverted_in_reverse)) (Some flow.Reverted)
unfolding is_before holds mark_after snapshot members symbol_value can_run can_revert refused ignores attempt answer resolution forced_attempt forced_again forced_reverted forced_resolution forced_retrying forced_revert forced_ignore forced_run forced_if_running is_active forced candidate_if_running choice calm_end end_of is_free is_still ends_task may_suspend reset
reverted_in_reverse_session = whole 0 flow.Reverted (reverse (between 1 14 reverted_in_reverse)) refl refl refl reverted_in_reverse_legal

-- a reset puts that flow back, and it may run again
abbrev pub put_back_anew : List Entry
put_back_anew =
    by 0 (flow_to flow.Running)
    ∷ by 0 (to 0 atom.Running)
    ∷ by 0 (gives 0 (number 1))
    ∷ by 0 (to 1 atom.Running)
    ∷ by 0 (gives 1 (number 2))
    ∷ by 0 (to 2 atom.Running)
    ∷ by 0 (fails 2 (failure.Raised (codes "boom")))
    ∷ by 0 (resolves 0 resolved.RevertAll)
    ∷ by 0 (to 2 atom.Reverting)
    ∷ by 0 (to 2 atom.Reverted)
    ∷ by 0 (to 1 atom.Reverting)
    ∷ by 0 (to 1 atom.Reverted)
    ∷ by 0 (to 0 atom.Reverting)
    ∷ by 0 (to 0 atom.Reverted)
    ∷ by 0 (flow_to flow.Reverted)
    ∷ by 0 (to 0 atom.Pending)
    ∷ by 0 (to 1 atom.Pending)
    ∷ by 0 (to 2 atom.Pending)
    ∷ by 0 (flow_to flow.Pending)
    ∷ by 0 (flow_to flow.Running)
    ∷ []

pub put_back_anew_legal : LegalPast reverted_in_reverse_plan (reverse put_back_anew)
unfolding is_before holds mark_after snapshot members symbol_value can_run can_revert refused ignores attempt answer resolution forced_attempt forced_again forced_reverted forced_resolution forced_retrying forced_revert forced_ignore forced_run forced_if_running is_active forced candidate_if_running choice calm_end end_of is_free is_still ends_task may_suspend reset
put_back_anew_legal = (
  turn refl refl,
  (
    put_back refl refl,
    (
      put_back refl refl,
      (
        put_back refl refl,
        (
          put_back refl refl,
          (
            end refl refl refl,
            (
              finish refl refl,
              (
                take_up refl refl refl,
                (
                  finish refl refl,
                  (
                    take_up refl refl refl,
                    (
                      finish refl refl,
                      (
                        take_up refl refl refl,
                        (
                          force refl refl,
                          (
                            finish refl refl,
                            (
                              take_up refl refl refl,
                              (
                                finish refl refl,
                                (
                                  take_up refl refl refl,
                                  (
                                    finish refl refl,
                                    (
                                      take_up refl refl refl,
                                      (turn refl refl, tt),
                                    ),
                                  ),
                                ),
                              ),
                            ),
                          ),
                        ),
                      ),
                    ),
                  ),
                ),
              ),
            ),
          ),
        ),
      ),
    ),
  ),
)

-- of two tasks without order the one of the greater priority comes first
abbrev pub by_priority_plan : Outline
by_priority_plan = plan_of (flow_of_items kind.Unordered (codes "main") None (echo (codes "a") (number 1) ∷ urgent (codes "b") (number 2) ∷ []))

abbrev pub by_priority : List Entry
by_priority =
    by 0 (flow_to flow.Running)
    ∷ by 0 (to 1 atom.Running)
    ∷ by 0 (gives 1 (number 2))
    ∷ by 0 (to 0 atom.Running)
    ∷ by 0 (gives 0 (number 1))
    ∷ by 0 (flow_to flow.Success)
    ∷ []

pub by_priority_legal : LegalPast by_priority_plan (reverse by_priority)
unfolding is_before holds mark_after snapshot members symbol_value can_run can_revert refused ignores attempt answer resolution forced_attempt forced_again forced_reverted forced_resolution forced_retrying forced_revert forced_ignore forced_run forced_if_running is_active forced candidate_if_running choice calm_end end_of is_free is_still ends_task may_suspend reset
by_priority_legal = (
  end refl refl refl,
  (
    finish refl refl,
    (
      take_up refl refl refl,
      (
        finish refl refl,
        (
          take_up refl refl refl,
          (turn refl refl, tt),
        ),
      ),
    ),
  ),
)

pub by_priority_session : Session by_priority_plan [] (reverse (drop 0 by_priority)) (Some flow.Success)
unfolding is_before holds mark_after snapshot members symbol_value can_run can_revert refused ignores attempt answer resolution forced_attempt forced_again forced_reverted forced_resolution forced_retrying forced_revert forced_ignore forced_run forced_if_running is_active forced candidate_if_running choice calm_end end_of is_free is_still ends_task may_suspend reset
by_priority_session = whole 0 flow.Success (reverse (between 1 5 by_priority)) refl refl refl by_priority_legal
