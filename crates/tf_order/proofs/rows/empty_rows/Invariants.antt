use Rattle.tf_order.proofs.TableLemmas.{EmptyRows}
use Rattle.tf_order.proofs.rows.empty_rows.Given as goal

abbrev pub invariant-loop : goal.invariant-loop
invariant-loop l = EmptyRows l.counter l.rows.items
