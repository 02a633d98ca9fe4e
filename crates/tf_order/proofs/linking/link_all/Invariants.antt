use Rattle.std.proofs.Common.{take}
use Rattle.tf_order.proofs.ExplicitLemmas.{LinkedAll}
use Rattle.tf_order.proofs.linking.link_all.Given as goal

abbrev pub invariant-loop-first : goal.invariant-loop-first
invariant-loop-first l = LinkedAll l.fn.links l.links (take l.first-index l.from) l.to
