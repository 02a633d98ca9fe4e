use Rattle.tf_engines.proofs.OrderLemmas.{done_next, same_done, ended_either}
use Rattle.tf_engines.proofs.hand_loop.perform.Goals as goal

pub returns-clause-orders : goal.returns-clause-orders
returns-clause-orders g c = λ told base to_do.
    ended_either c.end_turn.result told base _ _ (same_done told base _ _ _ c.end_turn.ensures.orders (done_next told base _ _ _ _ to_do c.in-Ok.ensures.done))
