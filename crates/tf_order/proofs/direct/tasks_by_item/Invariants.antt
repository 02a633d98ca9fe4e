use Rattle.tf_order.specs.Direct.{AreTasksByItem}
use Rattle.tf_order.proofs.direct.tasks_by_item.Given as goal

abbrev pub invariant-loop-atom : goal.invariant-loop-atom
invariant-loop-atom l = AreTasksByItem l.outline l.atom l.rows.items
