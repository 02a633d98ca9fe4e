use Rattle.std.proofs.Common.{take}
use Rattle.tf_order.proofs.ExplicitLemmas.{LinkedToEach}
use Rattle.tf_order.proofs.linking.link_each.Given as goal

abbrev pub invariant-loop-second : goal.invariant-loop-second
invariant-loop-second l = LinkedToEach l.first l.fn.links l.links (take l.second-index l.to)
