use Rattle.std.proofs.Common.{sym, ◌∙◌}
use Rattle.tf_rules.proofs.NeighborLemmas.{no_neighbor, neighbor_listed}
use Rattle.tf_rules.proofs.depths.is_neighbor.Goals as goal

pub returns-then-stands_in_graph : goal.returns-then-stands_in_graph
returns-then-stands_in_graph c =
    neighbor_listed c.args.plan.now c.args.refused c.args.atom c.direct_tasks.result.now c.contains.result c.requires.atom (sym c.stands_in_graph.ensures ∙ c.if-stands_in_graph.true)
    (c.direct_tasks.ensures c.args.plan.now c.requires.graph) c.contains.ensures.value

pub returns-else-stands_in_graph : goal.returns-else-stands_in_graph
returns-else-stands_in_graph c =
    c.if-stands_in_graph.false ∙ no_neighbor c.args.plan.now c.args.refused c.args.atom (sym c.stands_in_graph.ensures ∙ c.if-stands_in_graph.false)
