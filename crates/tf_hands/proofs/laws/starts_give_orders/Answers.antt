-- A hand that takes a task up has its order.
use Rattle.tf_hands.proofs.ChoiceLemmas.{choice_order, choice_orders, choice_busy, choice_takes}
use Rattle.tf_hands.proofs.laws.starts_give_orders.Goals as goal

pub returns-clause-order : goal.returns-clause-order
returns-clause-order c = choice_order

pub returns-clause-orders : goal.returns-clause-orders
returns-clause-orders c = choice_orders

pub returns-clause-busy : goal.returns-clause-busy
returns-clause-busy c = choice_busy

pub returns-clause-takes : goal.returns-clause-takes
returns-clause-takes c = choice_takes
