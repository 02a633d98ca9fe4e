use Rattle.std.proofs.Common.{◌≡◌, ℕ, take, None}
use Rattle.tf_flow.specs.Tree.{first_some}
use Rattle.tf_order.specs.Tables.{told_at}
use Rattle.tf_order.proofs.compilation.first_fault.Given as goal

abbrev pub invariant-loop-flow : goal.invariant-loop-flow
invariant-loop-flow l = record {
  kept : (g : ℕ) → told_at l.faults.items g ≡ told_at l.fn.faults.items g;
  none : first_some (told_at l.fn.faults.items) (take l.flow-index l.inner_first) ≡ None;
}
