-- Worked runs of tasks of which one fails.
use Rattle.std.specs.Prelude.{List, [], ◌∷◌, reverse, codes, Some, None, refl, drop}
use Rattle.std.specs.List.{between}
use Rattle.tf_flow.specs.declared.nested.FlowKind.TheVariants as kind
use Rattle.tf_states.specs.declared.record.Entry.{Entry}
use Rattle.tf_states.specs.declared.record.Failure.TheVariants as failure
use Rattle.tf_states.specs.declared.record.Kind.TheVariants as resolved
use Rattle.tf_states.specs.declared.state.AtomState.TheVariants as atom
use Rattle.tf_states.specs.declared.state.FlowState.TheVariants as flow
use Rattle.tf_model.specs.Plan.{Outline, is_before, holds}
use Rattle.tf_model.specs.History.{mark_after, snapshot}
use Rattle.tf_model.specs.Scope.{members, symbol_value}
use Rattle.tf_model.specs.Readiness.{can_run, can_revert, refused, ignores}
use Rattle.tf_model.specs.Retries.{attempt, answer, resolution}
use Rattle.tf_model.specs.Forced.{forced_attempt, forced_again, forced_reverted, forced_resolution, forced_retrying, forced_revert, forced_ignore, forced_run, forced_if_running, is_active, forced, candidate_if_running, choice, calm_end, end_of}
use Rattle.tf_model.specs.Steps.{is_free, is_still, ends_task, may_suspend, reset, LegalPast, Session, whole}
use Rattle.tf_model.proofs.RowWords.{number, echo, echo_for_good, fail, flow_of_items, plan_of, by, to, gives, fails, stays, flow_to, resolves, force, take_up, finish, turn, end}

-- a revert fails, and the flow ends FAILURE
abbrev pub stays_undone_plan : Outline
stays_undone_plan = plan_of (flow_of_items kind.Linear (codes "main") None (echo_for_good (codes "a") (number 1) ∷ fail (codes "b") (codes "no") ∷ []))

abbrev pub stays_undone : List Entry
stays_undone =
    by 0 (flow_to flow.Running)
    ∷ by 0 (to 0 atom.Running)
    ∷ by 0 (gives 0 (number 1))
    ∷ by 0 (to 1 atom.Running)
    ∷ by 0 (fails 1 (failure.Raised (codes "no")))
    ∷ by 0 (resolves 0 resolved.RevertAll)
    ∷ by 0 (to 1 atom.Reverting)
    ∷ by 0 (to 1 atom.Reverted)
    ∷ by 0 (to 0 atom.Reverting)
    ∷ by 0 (stays 0 (failure.Raised (codes "revert")))
    ∷ by 0 (flow_to flow.Failure)
    ∷ []

pub stays_undone_legal : LegalPast stays_undone_plan (reverse stays_undone)
unfolding is_before holds mark_after snapshot members symbol_value can_run can_revert refused ignores attempt answer resolution forced_attempt forced_again forced_reverted forced_resolution forced_retrying forced_revert forced_ignore forced_run forced_if_running is_active forced candidate_if_running choice calm_end end_of is_free is_still ends_task may_suspend reset
stays_undone_legal = (
  end refl refl refl,
  (
    finish refl refl,
    (
      take_up refl refl refl,
      (
        finish refl refl,
        (
          take_up refl refl refl,
          (
            force refl refl,
            (
              finish refl refl,
              (
                take_up refl refl refl,
                (
                  finish refl refl,
                  (
                    take_up refl refl refl,
                    (turn refl refl, tt),
                  ),
                ),
              ),
            ),
          ),
        ),
      ),
    ),
  ),
)

pub stays_undone_session : Session stays_undone_plan [] (reverse (drop 0 stays_undone)) (Some flow.Failure)
unfolding is_before holds mark_after snapshot members symbol_value can_run can_revert refused ignores attempt answer resolution forced_attempt forced_again forced_reverted forced_resolution forced_retrying forced_revert forced_ignore forced_run forced_if_running is_active forced candidate_if_running choice calm_end end_of is_free is_still ends_task may_suspend reset
stays_undone_session = whole 0 flow.Failure (reverse (between 1 10 stays_undone)) refl refl refl stays_undone_legal

-- a task fails, and one after it never begins
abbrev pub left_pending_plan : Outline
left_pending_plan = plan_of (flow_of_items kind.Linear (codes "main") None (fail (codes "a") (codes "no") ∷ echo (codes "b") (number 2) ∷ []))

abbrev pub left_pending : List Entry
left_pending =
    by 0 (flow_to flow.Running)
    ∷ by 0 (to 0 atom.Running)
    ∷ by 0 (fails 0 (failure.Raised (codes "no")))
    ∷ by 0 (resolves 0 resolved.RevertAll)
    ∷ by 0 (to 0 atom.Reverting)
    ∷ by 0 (to 0 atom.Reverted)
    ∷ by 0 (flow_to flow.Reverted)
    ∷ []

pub left_pending_legal : LegalPast left_pending_plan (reverse left_pending)
unfolding is_before holds mark_after snapshot members symbol_value can_run can_revert refused ignores attempt answer resolution forced_attempt forced_again forced_reverted forced_resolution forced_retrying forced_revert forced_ignore forced_run forced_if_running is_active forced candidate_if_running choice calm_end end_of is_free is_still ends_task may_suspend reset
left_pending_legal = (
  end refl refl refl,
  (
    finish refl refl,
    (
      take_up refl refl refl,
      (
        force refl refl,
        (
          finish refl refl,
          (
            take_up refl refl refl,
            (turn refl refl, tt),
          ),
        ),
      ),
    ),
  ),
)

pub left_pending_session : Session left_pending_plan [] (reverse (drop 0 left_pending)) (Some flow.Reverted)
unfolding is_before holds mark_after snapshot members symbol_value can_run can_revert refused ignores attempt answer resolution forced_attempt forced_again forced_reverted forced_resolution forced_retrying forced_revert forced_ignore forced_run forced_if_running is_active forced candidate_if_running choice calm_end end_of is_free is_still ends_task may_suspend reset
left_pending_session = whole 0 flow.Reverted (reverse (between 1 6 left_pending)) refl refl refl left_pending_legal
