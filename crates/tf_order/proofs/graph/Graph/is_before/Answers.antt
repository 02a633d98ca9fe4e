use Rattle.tf_order.proofs.GraphLemmas.{listed_before}
use Rattle.tf_order.proofs.graph.Graph.is_before.Goals as goal

pub returns : goal.returns
returns c = λ plan is.
    listed_before plan c.args.a c.args.b c.successors.result.now c.is_listed.result (c.successors.ensures plan is) c.is_listed.ensures
