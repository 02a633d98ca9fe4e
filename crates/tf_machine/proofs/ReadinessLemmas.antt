-- Readiness by the atoms before and after one.
use Rattle.std.proofs.Common.{◌≡◌, ℕ, Bool, true, false, not, ◌&&◌, sym, ap, ◌∙◌}
use Rattle.std.specs.List.{list_all}
use Rattle.tf_order.specs.Graph.{predecessors_of, successors_of}
use Rattle.tf_model.specs.Plan.{Outline, count, is_before}
use Rattle.tf_model.specs.History.{Snapshot, is_pending, is_executed}
use Rattle.tf_model.specs.Scope.{is_earlier}
use Rattle.tf_model.specs.Readiness.{can_run, can_revert, is_unmarked}
use Rattle.tf_model.specs.Forced.{is_done_at}
use Rattle.tf_model.specs.Steps.{is_settled_at}
use Rattle.tf_numbers.proofs.BelowLemmas.{all_which}
use Rattle.tf_numbers.proofs.TruthLemmas.{second_false, not_true}

pub runs_by_predecessors : (plan : Outline) (s : Snapshot) (a : ℕ) → can_run plan s a ≡ ((is_pending (s.state a) && is_unmarked s a) && list_all (is_done_at s) (predecessors_of plan a))
unfolding can_run
runs_by_predecessors plan s a = ap (λ (b : Bool). (is_pending (s.state a) && is_unmarked s a) && b) (sym (all_which (count plan) (is_earlier plan a) (is_done_at s)))

pub reverts_by_successors : (plan : Outline) (s : Snapshot) (a : ℕ) → can_revert plan s a ≡ ((is_executed (s.state a) && not (is_unmarked s a)) && list_all (is_settled_at s) (successors_of plan a))
unfolding can_revert
reverts_by_successors plan s a = ap (λ (b : Bool). (is_executed (s.state a) && not (is_unmarked s a)) && b) (sym (all_which (count plan) (is_before plan a) (is_settled_at s)))

-- where an atom before it isn't done with, it can't run
pub never_runs : (plan : Outline) (s : Snapshot) (a : ℕ) (b : Bool) → b ≡ list_all (is_done_at s) (predecessors_of plan a) → not b ≡ true → can_run plan s a ≡ false
never_runs plan s a b is waits = runs_by_predecessors plan s a ∙ second_false (is_pending (s.state a) && is_unmarked s a) _ (sym is ∙ not_true b waits)

-- where an atom after it isn't settled, it can't revert
pub never_reverts : (plan : Outline) (s : Snapshot) (a : ℕ) (b : Bool) → b ≡ list_all (is_settled_at s) (successors_of plan a) → not b ≡ true → can_revert plan s a ≡ false
never_reverts plan s a b is held = reverts_by_successors plan s a ∙ second_false (is_executed (s.state a) && not (is_unmarked s a)) _ (sym is ∙ not_true b held)
