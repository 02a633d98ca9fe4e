use Rattle.tf_engines.proofs.OrderLemmas.{done_next, same_done, done_whole}
use Rattle.tf_engines.proofs.taking_turns.perform.Goals as goal

pub returns-then-finish-clause-orders : goal.returns-then-finish-clause-orders
returns-then-finish-clause-orders g c = λ told base to_do. same_done told base _ _ _ c.finish.ensures.orders (done_next told base _ _ _ _ to_do c.in-Ok.ensures.done)

pub returns-clause-orders : goal.returns-clause-orders
returns-clause-orders g c = λ told base to_do. done_whole told base _ _ (same_done told base _ _ _ c.finish.ensures.orders (done_next told base _ _ _ _ to_do c.in-Ok.ensures.done))
