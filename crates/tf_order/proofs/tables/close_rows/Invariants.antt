use Rattle.tf_order.specs.Tables.{AreClosed}
use Rattle.tf_order.proofs.tables.close_rows.Given as goal

abbrev pub invariant-loop-row : goal.invariant-loop-row
invariant-loop-row l = AreClosed l.numbers l.number l.from l.row l.opened l.fn.rows.items l.rows.items
