-- Worked runs in which a decider refuses a task.
use Rattle.std.specs.Prelude.{List, [], ◌∷◌, reverse, codes, Some, None, refl, drop}
use Rattle.std.specs.List.{between}
use Rattle.tf_flow.specs.declared.deciders.Depth.TheVariants as depth
use Rattle.tf_flow.specs.declared.nested.FlowKind.TheVariants as kind
use Rattle.tf_states.specs.declared.record.Entry.{Entry}
use Rattle.tf_states.specs.declared.record.Failure.TheVariants as failure
use Rattle.tf_states.specs.declared.record.Kind.TheVariants as resolved
use Rattle.tf_states.specs.declared.state.AtomState.TheVariants as atom
use Rattle.tf_states.specs.declared.state.FlowState.TheVariants as flow
use Rattle.tf_flow.specs.Outline.{is_same}
use Rattle.tf_model.specs.Plan.{Outline, is_before, holds}
use Rattle.tf_model.specs.History.{mark_after, snapshot}
use Rattle.tf_model.specs.Scope.{members, symbol_value}
use Rattle.tf_model.specs.Readiness.{can_run, can_revert, refused, ignores}
use Rattle.tf_model.specs.Retries.{attempt, answer, resolution}
use Rattle.tf_model.specs.Forced.{forced_attempt, forced_again, forced_reverted, forced_resolution, forced_retrying, forced_revert, forced_ignore, forced_run, forced_if_running, is_active, forced, candidate_if_running, choice, calm_end, end_of}
use Rattle.tf_model.specs.Steps.{is_free, is_still, ends_task, may_suspend, reset, LegalPast, Session, whole}
use Rattle.tf_model.proofs.RowWords.{number, echo, echo_to, echo_of, flow_of_items, linked_plan_of, link, decider, by, to, gives, fails, flow_to, resolves, force, take_up, finish, turn, end}

-- with depth ALL a refused task and all after it are ignored
abbrev pub depth_all_plan : Outline
depth_all_plan = linked_plan_of (flow_of_items kind.Graph (codes "g") None (echo (codes "p") (number 0) ∷ echo (codes "v") (number 1) ∷ echo (codes "w") (number 2) ∷ echo (codes "x") (number 3) ∷ flow_of_items kind.Linear (codes "n") None (echo (codes "y") (number 4) ∷ []) ∷ [])) (decider (codes "p") (codes "v") (is_same (codes "p") (number 1)) depth.All ∷ link (codes "v") (codes "w") ∷ link (codes "w") (codes "x") ∷ link (codes "v") (codes "n") ∷ [])

abbrev pub depth_all : List Entry
depth_all =
    by 0 (flow_to flow.Running)
    ∷ by 0 (to 0 atom.Running)
    ∷ by 0 (gives 0 (number 0))
    ∷ by 0 (to 2 atom.Ignore)
    ∷ by 0 (to 3 atom.Ignore)
    ∷ by 0 (to 4 atom.Ignore)
    ∷ by 0 (to 1 atom.Ignore)
    ∷ by 0 (flow_to flow.Success)
    ∷ []

pub depth_all_legal : LegalPast depth_all_plan (reverse depth_all)
unfolding is_before holds mark_after snapshot members symbol_value can_run can_revert refused ignores attempt answer resolution forced_attempt forced_again forced_reverted forced_resolution forced_retrying forced_revert forced_ignore forced_run forced_if_running is_active forced candidate_if_running choice calm_end end_of is_free is_still ends_task may_suspend reset
depth_all_legal = (
  end refl refl refl,
  (
    force refl refl,
    (
      force refl refl,
      (
        force refl refl,
        (
          force refl refl,
          (
            finish refl refl,
            (
              take_up refl refl refl,
              (turn refl refl, tt),
            ),
          ),
        ),
      ),
    ),
  ),
)

pub depth_all_session : Session depth_all_plan [] (reverse (drop 0 depth_all)) (Some flow.Success)
unfolding is_before holds mark_after snapshot members symbol_value can_run can_revert refused ignores attempt answer resolution forced_attempt forced_again forced_reverted forced_resolution forced_retrying forced_revert forced_ignore forced_run forced_if_running is_active forced candidate_if_running choice calm_end end_of is_free is_still ends_task may_suspend reset
depth_all_session = whole 0 flow.Success (reverse (between 1 7 depth_all)) refl refl refl depth_all_legal

-- with depth FLOW the tasks of its own flow after it are
abbrev pub depth_flow_plan : Outline
depth_flow_plan = linked_plan_of (flow_of_items kind.Graph (codes "g") None (echo (codes "p") (number 0) ∷ echo (codes "v") (number 1) ∷ echo (codes "w") (number 2) ∷ echo (codes "x") (number 3) ∷ flow_of_items kind.Linear (codes "n") None (echo (codes "y") (number 4) ∷ []) ∷ [])) (decider (codes "p") (codes "v") (is_same (codes "p") (number 1)) depth.Flow ∷ link (codes "v") (codes "w") ∷ link (codes "w") (codes "x") ∷ link (codes "v") (codes "n") ∷ [])

abbrev pub depth_flow : List Entry
depth_flow =
    by 0 (flow_to flow.Running)
    ∷ by 0 (to 0 atom.Running)
    ∷ by 0 (gives 0 (number 0))
    ∷ by 0 (to 2 atom.Ignore)
    ∷ by 0 (to 3 atom.Ignore)
    ∷ by 0 (to 1 atom.Ignore)
    ∷ by 0 (to 4 atom.Running)
    ∷ by 0 (gives 4 (number 4))
    ∷ by 0 (flow_to flow.Success)
    ∷ []

pub depth_flow_legal : LegalPast depth_flow_plan (reverse depth_flow)
unfolding is_before holds mark_after snapshot members symbol_value can_run can_revert refused ignores attempt answer resolution forced_attempt forced_again forced_reverted forced_resolution forced_retrying forced_revert forced_ignore forced_run forced_if_running is_active forced candidate_if_running choice calm_end end_of is_free is_still ends_task may_suspend reset
depth_flow_legal = (
  end refl refl refl,
  (
    finish refl refl,
    (
      take_up refl refl refl,
      (
        force refl refl,
        (
          force refl refl,
          (
            force refl refl,
            (
              finish refl refl,
              (
                take_up refl refl refl,
                (turn refl refl, tt),
              ),
            ),
          ),
        ),
      ),
    ),
  ),
)

pub depth_flow_session : Session depth_flow_plan [] (reverse (drop 0 depth_flow)) (Some flow.Success)
unfolding is_before holds mark_after snapshot members symbol_value can_run can_revert refused ignores attempt answer resolution forced_attempt forced_again forced_reverted forced_resolution forced_retrying forced_revert forced_ignore forced_run forced_if_running is_active forced candidate_if_running choice calm_end end_of is_free is_still ends_task may_suspend reset
depth_flow_session = whole 0 flow.Success (reverse (between 1 8 depth_flow)) refl refl refl depth_flow_legal

-- with depth NEIGHBORS the tasks that a link leads to are
abbrev pub depth_neighbors_plan : Outline
depth_neighbors_plan = linked_plan_of (flow_of_items kind.Graph (codes "g") None (echo (codes "p") (number 0) ∷ echo (codes "v") (number 1) ∷ echo (codes "w") (number 2) ∷ echo (codes "x") (number 3) ∷ flow_of_items kind.Linear (codes "n") None (echo (codes "y") (number 4) ∷ []) ∷ [])) (decider (codes "p") (codes "v") (is_same (codes "p") (number 1)) depth.Neighbors ∷ link (codes "v") (codes "w") ∷ link (codes "w") (codes "x") ∷ link (codes "v") (codes "n") ∷ [])

abbrev pub depth_neighbors : List Entry
depth_neighbors =
    by 0 (flow_to flow.Running)
    ∷ by 0 (to 0 atom.Running)
    ∷ by 0 (gives 0 (number 0))
    ∷ by 0 (to 2 atom.Ignore)
    ∷ by 0 (to 1 atom.Ignore)
    ∷ by 0 (to 3 atom.Running)
    ∷ by 0 (gives 3 (number 3))
    ∷ by 0 (to 4 atom.Running)
    ∷ by 0 (gives 4 (number 4))
    ∷ by 0 (flow_to flow.Success)
    ∷ []

pub depth_neighbors_legal : LegalPast depth_neighbors_plan (reverse depth_neighbors)
unfolding is_before holds mark_after snapshot members symbol_value can_run can_revert refused ignores attempt answer resolution forced_attempt forced_again forced_reverted forced_resolution forced_retrying forced_revert forced_ignore forced_run forced_if_running is_active forced candidate_if_running choice calm_end end_of is_free is_still ends_task may_suspend reset
depth_neighbors_legal = (
  end refl refl refl,
  (
    finish refl refl,
    (
      take_up refl refl refl,
      (
        finish refl refl,
        (
          take_up refl refl refl,
          (
            force refl refl,
            (
              force refl refl,
              (
                finish refl refl,
                (
                  take_up refl refl refl,
                  (turn refl refl, tt),
                ),
              ),
            ),
          ),
        ),
      ),
    ),
  ),
)

pub depth_neighbors_session : Session depth_neighbors_plan [] (reverse (drop 0 depth_neighbors)) (Some flow.Success)
unfolding is_before holds mark_after snapshot members symbol_value can_run can_revert refused ignores attempt answer resolution forced_attempt forced_again forced_reverted forced_resolution forced_retrying forced_revert forced_ignore forced_run forced_if_running is_active forced candidate_if_running choice calm_end end_of is_free is_still ends_task may_suspend reset
depth_neighbors_session = whole 0 flow.Success (reverse (between 1 9 depth_neighbors)) refl refl refl depth_neighbors_legal

-- with depth ATOM it alone is
abbrev pub depth_atom_plan : Outline
depth_atom_plan = linked_plan_of (flow_of_items kind.Graph (codes "g") None (echo (codes "p") (number 0) ∷ echo (codes "v") (number 1) ∷ echo (codes "w") (number 2) ∷ echo (codes "x") (number 3) ∷ flow_of_items kind.Linear (codes "n") None (echo (codes "y") (number 4) ∷ []) ∷ [])) (decider (codes "p") (codes "v") (is_same (codes "p") (number 1)) depth.Atom ∷ link (codes "v") (codes "w") ∷ link (codes "w") (codes "x") ∷ link (codes "v") (codes "n") ∷ [])

abbrev pub depth_atom : List Entry
depth_atom =
    by 0 (flow_to flow.Running)
    ∷ by 0 (to 0 atom.Running)
    ∷ by 0 (gives 0 (number 0))
    ∷ by 0 (to 1 atom.Ignore)
    ∷ by 0 (to 2 atom.Running)
    ∷ by 0 (gives 2 (number 2))
    ∷ by 0 (to 3 atom.Running)
    ∷ by 0 (gives 3 (number 3))
    ∷ by 0 (to 4 atom.Running)
    ∷ by 0 (gives 4 (number 4))
    ∷ by 0 (flow_to flow.Success)
    ∷ []

pub depth_atom_legal : LegalPast depth_atom_plan (reverse depth_atom)
unfolding is_before holds mark_after snapshot members symbol_value can_run can_revert refused ignores attempt answer resolution forced_attempt forced_again forced_reverted forced_resolution forced_retrying forced_revert forced_ignore forced_run forced_if_running is_active forced candidate_if_running choice calm_end end_of is_free is_still ends_task may_suspend reset
depth_atom_legal = (
  end refl refl refl,
  (
    finish refl refl,
    (
      take_up refl refl refl,
      (
        finish refl refl,
        (
          take_up refl refl refl,
          (
            finish refl refl,
            (
              take_up refl refl refl,
              (
                force refl refl,
                (
                  finish refl refl,
                  (
                    take_up refl refl refl,
                    (turn refl refl, tt),
                  ),
                ),
              ),
            ),
          ),
        ),
      ),
    ),
  ),
)

pub depth_atom_session : Session depth_atom_plan [] (reverse (drop 0 depth_atom)) (Some flow.Success)
unfolding is_before holds mark_after snapshot members symbol_value can_run can_revert refused ignores attempt answer resolution forced_attempt forced_again forced_reverted forced_resolution forced_retrying forced_revert forced_ignore forced_run forced_if_running is_active forced candidate_if_running choice calm_end end_of is_free is_still ends_task may_suspend reset
depth_atom_session = whole 0 flow.Success (reverse (between 1 10 depth_atom)) refl refl refl depth_atom_legal

-- what an ignored task would give is missing
abbrev pub ignored_provider_plan : Outline
ignored_provider_plan = linked_plan_of (flow_of_items kind.Graph (codes "g") None (echo (codes "p") (number 0) ∷ echo_to (codes "u") (number 5) (codes "k") ∷ echo_of (codes "c") (codes "k") ∷ [])) (decider (codes "p") (codes "u") (is_same (codes "p") (number 1)) depth.Atom ∷ [])

abbrev pub ignored_provider : List Entry
ignored_provider =
    by 0 (flow_to flow.Running)
    ∷ by 0 (to 0 atom.Running)
    ∷ by 0 (gives 0 (number 0))
    ∷ by 0 (to 1 atom.Ignore)
    ∷ by 0 (to 2 atom.Running)
    ∷ by 0 (fails 2 (failure.Lookup (codes "k")))
    ∷ by 0 (resolves 0 resolved.RevertAll)
    ∷ by 0 (to 2 atom.Reverting)
    ∷ by 0 (to 2 atom.Reverted)
    ∷ by 0 (to 0 atom.Reverting)
    ∷ by 0 (to 0 atom.Reverted)
    ∷ by 0 (flow_to flow.Reverted)
    ∷ []

pub ignored_provider_legal : LegalPast ignored_provider_plan (reverse ignored_provider)
unfolding is_before holds mark_after snapshot members symbol_value can_run can_revert refused ignores attempt answer resolution forced_attempt forced_again forced_reverted forced_resolution forced_retrying forced_revert forced_ignore forced_run forced_if_running is_active forced candidate_if_running choice calm_end end_of is_free is_still ends_task may_suspend reset
ignored_provider_legal = (
  end refl refl refl,
  (
    finish refl refl,
    (
      take_up refl refl refl,
      (
        finish refl refl,
        (
          take_up refl refl refl,
          (
            force refl refl,
            (
              finish refl refl,
              (
                take_up refl refl refl,
                (
                  force refl refl,
                  (
                    finish refl refl,
                    (
                      take_up refl refl refl,
                      (turn refl refl, tt),
                    ),
                  ),
                ),
              ),
            ),
          ),
        ),
      ),
    ),
  ),
)

pub ignored_provider_session : Session ignored_provider_plan [] (reverse (drop 0 ignored_provider)) (Some flow.Reverted)
unfolding is_before holds mark_after snapshot members symbol_value can_run can_revert refused ignores attempt answer resolution forced_attempt forced_again forced_reverted forced_resolution forced_retrying forced_revert forced_ignore forced_run forced_if_running is_active forced candidate_if_running choice calm_end end_of is_free is_still ends_task may_suspend reset
ignored_provider_session = whole 0 flow.Reverted (reverse (between 1 11 ignored_provider)) refl refl refl ignored_provider_legal
