use Rattle.std.proofs.Common.{take}
use Rattle.tf_order.proofs.ContextLemmas.{MarkedBy}
use Rattle.tf_order.proofs.context.mark_items.Given as goal

abbrev pub invariant-loop-turn : goal.invariant-loop-turn
invariant-loop-turn l = MarkedBy l.fn.set l.set l.flow l.count (take l.turn-index l.path)
