use Rattle.std.proofs.Common.{◌≡◌, length}
use Rattle.tf_audit.specs.Progress.{AreWhole}
use Rattle.tf_audit.proofs.progress.no_orders.Given as goal

abbrev pub invariant-loop-atom : goal.invariant-loop-atom
invariant-loop-atom l = record {
  many : length l.orders.items ≡ l._atom;
  whole : AreWhole l.orders.items;
}
