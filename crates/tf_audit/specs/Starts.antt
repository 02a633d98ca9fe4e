-- Which task an entry takes up.
use Rattle.std.specs.Prelude.{◌≡◌, ℕ, Some, true, false}
use Rattle.tf_states.specs.declared.record.What.{What}
use Rattle.tf_actions.specs.declared.orders.Order.{Order}
use Rattle.tf_actions.specs.Gives.{IsWhole}
use Rattle.tf_model.specs.Scope.{order_of, takes_up}
use Rattle.tf_model.specs.Plan.{Outline, is_task}
use Rattle.tf_model.specs.History.{Snapshot, state_after}
use Rattle.tf_hands.specs.Hands.{asked_in}
use Rattle.tf_hands.specs.declared.starts.Start.{Start}

-- it takes no task up
pub record TakesNone (plan : Outline) (w : What) : Type 0 where
  pub none : (a : ℕ) → is_task plan a ≡ true → takes_up w a ≡ false

-- it takes task a up, with the order of this moment
pub record IsTakenUp (plan : Outline) (s : Snapshot) (w : What) (a : ℕ) (order : Order) : Type 0 where
  pub task : is_task plan a ≡ true
  pub taken : takes_up w a ≡ true
  pub asked : order_of plan s a (asked_in (state_after w a (s.state a))) ≡ Some order
  pub whole : IsWhole order

-- the start is that of the task that is taken up
pub record StartsSo (plan : Outline) (s : Snapshot) (w : What) (start : Start) : Type 0 where
  pub task : is_task plan start.atom ≡ true
  pub taken : takes_up w start.atom ≡ true
  pub action : start.action ≡ asked_in (state_after w start.atom (s.state start.atom))
