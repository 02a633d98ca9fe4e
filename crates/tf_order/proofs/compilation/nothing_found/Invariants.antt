use Rattle.tf_order.specs.Tables.{AreNone}
use Rattle.tf_order.proofs.compilation.nothing_found.Given as goal

abbrev pub invariant-loop : goal.invariant-loop
invariant-loop l = record { table : AreNone l.counter l.table.items; faults : AreNone l.counter l.faults.items }
