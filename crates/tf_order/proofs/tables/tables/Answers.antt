use Rattle.tf_order.proofs.SpreadLemmas.{tables_are}
use Rattle.tf_order.proofs.tables.tables.Goals as goal

pub returns : goal.returns
returns c = tables_are c.args.outline.now c.in_ok-graph.graph c.in_ok-orders.orders.predecessors.items c.in_ok-orders.orders.successors.items c.in_ok-direct_tasks.direct_tasks.items c.in_ok-standing.standing.items
    c.in_ok-orders.ensures.predecessors c.in_ok-orders.ensures.successors c.in_ok-direct_tasks.ensures c.in_ok-standing.ensures c.in_ok-graph.ensures
