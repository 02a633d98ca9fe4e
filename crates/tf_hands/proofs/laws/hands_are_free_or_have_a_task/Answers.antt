-- A hand is free, or has a task.
use Rattle.tf_hands.proofs.FlightLemmas.{still_free, still_no_order, task_not_free, no_task_free, free_no_task, order_told}
use Rattle.tf_hands.proofs.laws.hands_are_free_or_have_a_task.Goals as goal

pub returns-clause-still : goal.returns-clause-still
returns-clause-still c = still_free

pub returns-clause-no_order : goal.returns-clause-no_order
returns-clause-no_order c = still_no_order

pub returns-clause-busy : goal.returns-clause-busy
returns-clause-busy c = task_not_free

pub returns-clause-free : goal.returns-clause-free
returns-clause-free c = no_task_free

pub returns-clause-no_task : goal.returns-clause-no_task
returns-clause-no_task c = free_no_task

pub returns-clause-order : goal.returns-clause-order
returns-clause-order c = order_told
