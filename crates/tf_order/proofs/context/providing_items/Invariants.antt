use Rattle.std.proofs.Common.{take}
use Rattle.tf_order.proofs.ContextLemmas.{ItemsOf}
use Rattle.tf_order.proofs.context.providing_items.Given as goal

abbrev pub invariant-loop-atom : goal.invariant-loop-atom
invariant-loop-atom l = ItemsOf l.context l.set (take l.atom-index l.atom-items)
