use Rattle.tf_order.specs.Tables.{AreSet}
use Rattle.tf_order.proofs.tables.open_rows.Given as goal

abbrev pub invariant-loop-row : goal.invariant-loop-row
invariant-loop-row l = AreSet l.number l.from l.row l.fn.opened.items l.opened.items
