use Rattle.std.proofs.Common.{take}
use Rattle.tf_order.proofs.ContextLemmas.{NoneServes}
use Rattle.tf_order.proofs.context.is_unserved.Given as goal

abbrev pub invariant-loop-other : goal.invariant-loop-other
invariant-loop-other l = NoneServes l.context l.item l.atom (take l.other-index l.other-items)
