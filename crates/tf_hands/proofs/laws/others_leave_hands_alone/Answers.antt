-- Other hands leave a hand alone, however much they record.
use Rattle.tf_hands.proofs.OtherLemmas.{other_order, other_free, order_through, free_through, orders_through}
use Rattle.tf_hands.proofs.laws.others_leave_hands_alone.Goals as goal

pub returns-clause-order : goal.returns-clause-order
returns-clause-order c = other_order

pub returns-clause-free : goal.returns-clause-free
returns-clause-free c = other_free

pub returns-clause-order_through : goal.returns-clause-order_through
returns-clause-order_through c = order_through

pub returns-clause-free_through : goal.returns-clause-free_through
returns-clause-free_through c = free_through

pub returns-clause-orders_through : goal.returns-clause-orders_through
returns-clause-orders_through c = orders_through
