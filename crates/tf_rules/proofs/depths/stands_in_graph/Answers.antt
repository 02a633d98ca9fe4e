use Rattle.std.proofs.Common.{sym, ◌∙◌}
use Rattle.tf_rules.proofs.HomeLemmas.{no_graph, graph_told}
use Rattle.tf_rules.proofs.depths.stands_in_graph.Goals as goal

pub returns-in-None : goal.returns-in-None
returns-in-None c = sym (no_graph c.args.plan.now c.args.atom (sym c.in-None.ensures))

pub returns-in-Some : goal.returns-in-Some
returns-in-Some c = c.is_graph.ensures ∙ sym (graph_told c.args.plan.now c.args.atom c.in-Some.flow.now (sym c.in-Some.ensures))
