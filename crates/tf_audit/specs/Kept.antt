-- What an audit keeps.
use Rattle.std.specs.Prelude.{◌≡◌, ℕ, List, true, Option, Some, slice_get}
use Rattle.tf_states.specs.declared.record.Entry.{Entry}
use Rattle.tf_actions.specs.declared.orders.Order.{Order}
use Rattle.tf_model.specs.History.{state_of, is_at_work}
use Rattle.tf_model.specs.Scope.{order_at}
use Rattle.tf_model.specs.Plan.{Outline, is_task}
use Rattle.tf_hands.specs.Hands.{asked_in}
use Rattle.tf_model.specs.Steps.{Step}
use Rattle.tf_machine.specs.Machine.{MachineValue, StandsFor, outline, shown}

-- the order of each task at work is kept: that of its last start
pub record KeepsOrders (plan : Outline) (orders : List (Option Order)) (past : List Entry) : Type 0 where
  pub each : (a : ℕ) → is_task plan a ≡ true → is_at_work (state_of past a) ≡ true
      → slice_get orders a ≡ Some (order_at plan past a (asked_in (state_of past a)))

-- the entry may follow the history that the machine stands for, and the orders of its tasks are kept
pub record Follows (machine : MachineValue) (orders : List (Option Order)) (past : List Entry)
    (e : Entry) : Type 0 where
  pub stands : StandsFor machine past
  pub keeps : KeepsOrders (outline machine) orders past
  pub step : Step (outline machine) (shown machine) e
