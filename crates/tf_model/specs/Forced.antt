-- Which entry comes next: the one that is forced, or the task that a hand takes up.
use Rattle.std.specs.Prelude.{ℕ, Bool, false, not, ◌&&◌, ◌||◌, Option, Some, None, option_map, is_some, nat_eq, if◌then◌else◌, ℤ, pos, is_none, int_lt}
use Rattle.std.specs.Option.{option_or, option_map_or}
use Rattle.tf_flow.specs.declared.deciders.Depth.{Depth}
use Rattle.tf_states.specs.declared.record.Payload.TheVariants as payload
use Rattle.tf_states.specs.declared.record.What.{What}
use Rattle.tf_states.specs.declared.record.What.TheVariants as what
use Rattle.tf_states.specs.declared.state.AtomState.{AtomState}
use Rattle.tf_states.specs.declared.state.AtomState.TheVariants as atom
use Rattle.tf_numbers.specs.Numbers.{all_below, first_below, any_below}
use Rattle.tf_model.specs.Plan.{Outline, count, holds, is_retry, own_flow, is_task}
use Rattle.tf_model.specs.History.{Resolve, Snapshot, is_retry_of, is_pending, is_running, is_success, is_failure, is_reverting, is_revert_failure, is_retrying, is_settled, is_put_back, flow_runs, is_at_work, is_done, flow_suspends}
use Rattle.tf_model.specs.Readiness.{is_unmarked, can_run, can_revert, refused, ignores, is_to_revert}
use Rattle.tf_model.specs.Retries.{attempt, ends_with, resolution}
use Rattle.tf_states.specs.declared.state.FlowState.{FlowState}
use Rattle.tf_states.specs.declared.state.FlowState.TheVariants as flow
use Rattle.tf_flow.specs.Outline.{priority_of}
use Rattle.tf_model.specs.Before.{part_at}

-- ---- the entry that must come next

-- the atom enters a state that carries nothing
abbrev pub enters : ℕ → AtomState → What
enters a state = what.Atom a state payload.Empty

-- the first atom in tree order that passes the test, and its entry
abbrev pub first_entry : Outline → (ℕ → Bool) → (ℕ → What) → Option What
first_entry plan test entry = option_map entry (first_below (count plan) test)

-- the flow in which r stands itself holds a
abbrev pub holds_with : Outline → Option ℕ → ℕ → Bool
holds_with plan None a = false
holds_with plan (Some g) a = holds plan g a

-- a is another atom of r's flow
abbrev pub is_of_its_flow : Outline → ℕ → ℕ → Bool
is_of_its_flow plan r a = holds_with plan (own_flow plan r) a && not (nat_eq a r)

-- 1. a retry controller in RUNNING ends with its attempt's value, or fails
abbrev pub is_attempting : Outline → Snapshot → ℕ → Bool
is_attempting plan s r = is_retry plan r && is_running (s.state r)

-- the end of the attempt
abbrev pub attempt_entry : Outline → Snapshot → ℕ → What
attempt_entry plan s r = ends_with r (attempt plan s r)

-- the first case
unfoldable pub forced_attempt : Outline → Snapshot → Option What
forced_attempt plan s = first_entry plan (is_attempting plan s) (attempt_entry plan s)

-- 2. a retry controller in RETRYING: the first REVERTED or IGNORE atom of its flow becomes PENDING; where
-- none is left, it becomes RUNNING
abbrev pub is_beginning_again : Outline → Snapshot → ℕ → Bool
is_beginning_again plan s r = is_retry plan r && is_retrying (s.state r)

-- a is another atom of r's flow, and is REVERTED or IGNORE
abbrev pub is_to_put_back : Outline → Snapshot → ℕ → ℕ → Bool
is_to_put_back plan s r a = is_of_its_flow plan r a && is_put_back (s.state a)

-- the atom becomes PENDING, or r becomes RUNNING where there is none
abbrev pub put_back_or_run : ℕ → Option ℕ → What
put_back_or_run r None = enters r atom.Running
put_back_or_run r (Some a) = enters a atom.Pending

-- what r has put back next, or its RUNNING
abbrev pub again_entry : Outline → Snapshot → ℕ → What
again_entry plan s r = put_back_or_run r (first_below (count plan) (is_to_put_back plan s r))

-- the second case
unfoldable pub forced_again : Outline → Snapshot → Option What
forced_again plan s = first_entry plan (is_beginning_again plan s) (again_entry plan s)

-- 3. a retry controller in REVERTING becomes REVERTED
abbrev pub is_undone_retry : Outline → Snapshot → ℕ → Bool
is_undone_retry plan s r = is_retry plan r && is_reverting (s.state r)

-- r becomes REVERTED
abbrev pub reverted_entry : ℕ → What
reverted_entry r = enters r atom.Reverted

-- the third case
unfoldable pub forced_reverted : Outline → Snapshot → Option What
forced_reverted plan s = first_entry plan (is_undone_retry plan s) reverted_entry

-- 4. a FAILURE with mark EXECUTE: its resolution is recorded
abbrev pub is_unresolved : Snapshot → ℕ → Bool
is_unresolved s a = is_failure (s.state a) && is_unmarked s a

-- the entry of a resolution
abbrev pub resolve_entry : Resolve → What
resolve_entry resolve = what.Resolve resolve.flow resolve.kind

-- the entry of a's resolution
abbrev pub resolution_entry : Outline → Snapshot → ℕ → What
resolution_entry plan s a = resolve_entry (resolution plan s a)

-- the fourth case
unfoldable pub forced_resolution : Outline → Snapshot → Option What
forced_resolution plan s = first_entry plan (is_unresolved s) (resolution_entry plan s)

-- 5. a retry controller in SUCCESS that a resolve of its own flow is to run again, where every other atom
-- of its flow is settled, becomes RETRYING
abbrev pub is_marked_again : Option ℕ → Option Resolve → Bool
is_marked_again own None = false
is_marked_again own (Some mark) = is_retry_of own mark

-- a is no other atom of r's flow, or is settled
abbrev pub is_settled_beside : Outline → Snapshot → ℕ → ℕ → Bool
is_settled_beside plan s r a = not (is_of_its_flow plan r a) || is_settled (s.state a)

-- r is a retry controller that is to become RETRYING
abbrev pub is_to_begin_again : Outline → Snapshot → ℕ → Bool
is_to_begin_again plan s r =
    (is_retry plan r && is_success (s.state r))
    && (is_marked_again (own_flow plan r) (s.mark r) && all_below (count plan) (is_settled_beside plan s r))

-- r becomes RETRYING
abbrev pub retrying_entry : ℕ → What
retrying_entry r = enters r atom.Retrying

-- the fifth case
unfoldable pub forced_retrying : Outline → Snapshot → Option What
forced_retrying plan s = first_entry plan (is_to_begin_again plan s) retrying_entry

-- 6. another retry controller that can revert becomes REVERTING
abbrev pub is_retry_to_revert : Outline → Snapshot → ℕ → Bool
is_retry_to_revert plan s r = is_retry plan r && can_revert plan s r

-- a becomes REVERTING
abbrev pub reverting_entry : ℕ → What
reverting_entry a = enters a atom.Reverting

-- the sixth case
unfoldable pub forced_revert : Outline → Snapshot → Option What
forced_revert plan s = first_entry plan (is_retry_to_revert plan s) reverting_entry

-- 7. a refused v that can run: the first other PENDING atom that its depth ignores becomes IGNORE; where
-- none is left, v becomes IGNORE
abbrev pub is_refused : Outline → Snapshot → ℕ → Bool
is_refused plan s v = can_run plan s v && is_some (refused plan s v)

-- a is another PENDING atom that the depth of v ignores
abbrev pub is_to_ignore : Outline → Snapshot → ℕ → Depth → ℕ → Bool
is_to_ignore plan s v how a = not (nat_eq v a) && (is_pending (s.state a) && ignores plan v how a)

-- a becomes IGNORE
abbrev pub ignored_entry : ℕ → What
ignored_entry a = enters a atom.Ignore

-- the atom becomes IGNORE, or v where there is none
abbrev pub ignore_or_self : ℕ → Option ℕ → What
ignore_or_self v None = ignored_entry v
ignore_or_self v (Some a) = ignored_entry a

-- what is ignored next with this depth
abbrev pub ignore_by : Outline → Snapshot → ℕ → Option Depth → What
ignore_by plan s v None = ignored_entry v
ignore_by plan s v (Some how) = ignore_or_self v (first_below (count plan) (is_to_ignore plan s v how))

-- what is ignored next, since v is refused
abbrev pub ignore_entry : Outline → Snapshot → ℕ → What
ignore_entry plan s v = ignore_by plan s v (refused plan s v)

-- the seventh case
unfoldable pub forced_ignore : Outline → Snapshot → Option What
forced_ignore plan s = first_entry plan (is_refused plan s) (ignore_entry plan s)

-- 8. a retry controller that can run becomes RUNNING
abbrev pub is_retry_to_run : Outline → Snapshot → ℕ → Bool
is_retry_to_run plan s r = is_retry plan r && can_run plan s r

-- a becomes RUNNING
abbrev pub running_entry : ℕ → What
running_entry a = enters a atom.Running

-- the eighth case
unfoldable pub forced_run : Outline → Snapshot → Option What
forced_run plan s = first_entry plan (is_retry_to_run plan s) running_entry

-- the entry of the first case that applies, read as if the flow were RUNNING
unfoldable pub forced_if_running : Outline → Snapshot → Option What
forced_if_running plan s =
    option_or (forced_attempt plan s)
    (option_or (forced_again plan s)
    (option_or (forced_reverted plan s)
    (option_or (forced_resolution plan s)
    (option_or (forced_retrying plan s)
    (option_or (forced_revert plan s)
    (option_or (forced_ignore plan s)
    (forced_run plan s)))))))

-- no atom is REVERT_FAILURE
abbrev pub is_unhurt_at : Snapshot → ℕ → Bool
is_unhurt_at s a = not (is_revert_failure (s.state a))

-- no atom is REVERT_FAILURE
abbrev pub is_unhurt : Outline → Snapshot → Bool
is_unhurt plan s = all_below (count plan) (is_unhurt_at s)

-- the flow is RUNNING, and no atom is REVERT_FAILURE
unfoldable pub is_active : Outline → Snapshot → Bool
is_active plan s = flow_runs s.flow && is_unhurt plan s

-- the forced entry
unfoldable pub forced : Outline → Snapshot → Option What
forced plan s = if is_active plan s then forced_if_running plan s else None

-- ---- which task a hand takes up next, and how a run ends

-- an interrupted task: at work, and no hand has it in flight
abbrev pub is_interrupted : Outline → Snapshot → ℕ → Bool
is_interrupted plan s a = is_task plan a && (is_at_work (s.state a) && is_none (s.hand a))

-- a task that may be taken up: an interrupted one, one that can run, or one that can revert
abbrev pub is_candidate : Outline → Snapshot → ℕ → Bool
is_candidate plan s a = is_interrupted plan s a || (is_task plan a && (can_run plan s a || can_revert plan s a))

-- the priority of a
abbrev pub priority : Outline → ℕ → ℤ
priority plan a = option_map_or priority_of (part_at plan.atoms a) (pos 0)

-- b is a candidate of a greater priority than a
abbrev pub outranks : Outline → Snapshot → ℕ → ℕ → Bool
outranks plan s a b = is_candidate plan s b && int_lt (priority plan a) (priority plan b)

-- a candidate of the greatest priority
abbrev pub is_best : Outline → Snapshot → ℕ → Bool
is_best plan s a = is_candidate plan s a && not (any_below (count plan) (outranks plan s a))

-- how a task in this state is taken up: restarted, started, or begun to be reverted
abbrev pub taken_up : AtomState → ℕ → What
taken_up atom.Running a = what.Restart a
taken_up atom.Reverting a = what.Restart a
taken_up atom.Pending a = enters a atom.Running
taken_up state a = enters a atom.Reverting

-- how a is taken up
abbrev pub candidate_entry : Snapshot → ℕ → What
candidate_entry s a = taken_up (s.state a) a

-- the first candidate, of the greatest priority and then in tree order, read as if the flow were RUNNING
unfoldable pub candidate_if_running : Outline → Snapshot → Option What
candidate_if_running plan s = option_map (candidate_entry s) (first_below (count plan) (is_best plan s))

-- the first candidate: while nothing is forced, the flow is RUNNING and no atom is REVERT_FAILURE
unfoldable pub choice : Outline → Snapshot → Option What
choice plan s = if is_active plan s && is_none (forced plan s) then candidate_if_running plan s else None

-- SUCCESS or IGNORE
abbrev pub is_done_at : Snapshot → ℕ → Bool
is_done_at s a = is_done (s.state a)

-- not RUNNING, REVERTING or FAILURE, and not SUCCESS where the mark is REVERT
abbrev pub is_at_rest : Snapshot → ℕ → Bool
is_at_rest s a =
    not (is_at_work (s.state a)) &&
    (not (is_failure (s.state a)) && not (is_success (s.state a) && is_to_revert (s.mark a)))

-- how a run ends that nothing is forced in: SUCCESS where every atom is SUCCESS or IGNORE; else REVERTED
-- where there is no candidate and every atom is at rest
unfoldable pub calm_end : Outline → Snapshot → Option FlowState
calm_end plan s =
    if all_below (count plan) (is_done_at s) then Some flow.Success
    else if is_none (candidate_if_running plan s) && all_below (count plan) (is_at_rest s) then Some flow.Reverted
    else None

-- the end: none unless the flow is RUNNING or SUSPENDING; FAILURE where an atom is REVERT_FAILURE; none
-- while an entry is forced, which in SUSPENDING is read, like the candidates, as if the flow were RUNNING
unfoldable pub end_of : Outline → Snapshot → Option FlowState
end_of plan s =
    if flow_runs s.flow || flow_suspends s.flow then
    (if is_unhurt plan s then (if is_none (forced_if_running plan s) then calm_end plan s else None)
    else Some flow.Failure)
    else None
