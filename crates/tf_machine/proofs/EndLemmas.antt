-- How a run ends that nothing is forced in, by its parts.
use Rattle.std.proofs.Common.{◌≡◌, ℕ, Bool, false, ◌&&◌, Option, Some, None, refl, ap}
use Rattle.std.specs.Prelude.{if◌then◌else◌, is_none, option_map}
use Rattle.tf_states.specs.declared.state.FlowState.{FlowState}
use Rattle.tf_states.specs.declared.state.FlowState.TheVariants as flow
use Rattle.tf_numbers.specs.Numbers.{all_below, first_below}
use Rattle.tf_model.specs.Plan.{Outline, count}
use Rattle.tf_model.specs.History.{Snapshot}
use Rattle.tf_model.specs.Forced.{is_best, is_done_at, is_at_rest, candidate_entry, candidate_if_running, calm_end}

none_taken : (s : Snapshot) (o : Option ℕ) → is_none (option_map (candidate_entry s) o) ≡ is_none o
none_taken s None = refl
none_taken s (Some a) = refl

-- the end where all is done, where all is at rest, and by the best candidate
abbrev pub end_by_parts : Bool → Bool → Option ℕ → Option FlowState
end_by_parts done rest o = if done then Some flow.Success else if is_none o && rest then Some flow.Reverted else None

pub calm_by : (plan : Outline) (s : Snapshot) → calm_end plan s ≡ end_by_parts (all_below (count plan) (is_done_at s)) (all_below (count plan) (is_at_rest s)) (first_below (count plan) (is_best plan s))
unfolding calm_end candidate_if_running
calm_by plan s =
    ap (λ (b : Bool). if all_below (count plan) (is_done_at s) then Some flow.Success else if b && all_below (count plan) (is_at_rest s) then Some flow.Reverted else None)
    (none_taken s (first_below (count plan) (is_best plan s)))

pub restless : (o : Option ℕ) → end_by_parts false false o ≡ None
restless None = refl
restless (Some a) = refl
