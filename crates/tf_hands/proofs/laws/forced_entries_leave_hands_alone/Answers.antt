-- What is forced leaves hands alone.
use Rattle.tf_hands.proofs.LeaveLemmas.{forced_hands, forced_free, forced_still, forced_order, forced_orders}
use Rattle.tf_hands.proofs.laws.forced_entries_leave_hands_alone.Goals as goal

pub returns-clause-hands : goal.returns-clause-hands
returns-clause-hands c = forced_hands

pub returns-clause-free : goal.returns-clause-free
returns-clause-free c = forced_free

pub returns-clause-still : goal.returns-clause-still
returns-clause-still c = forced_still

pub returns-clause-order : goal.returns-clause-order
returns-clause-order c = forced_order

pub returns-clause-orders : goal.returns-clause-orders
returns-clause-orders c = forced_orders
