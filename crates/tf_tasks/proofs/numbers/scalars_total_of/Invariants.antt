use Rattle.std.proofs.Common.{◌≡◌, ◌*◌, ◌^◌, drop, pos, ◌+ℤ◌, neg_ℤ, ◌≤ℤ◌}
use Rattle.tf_actions.specs.Built.{scalars_total}
use Rattle.tf_tasks.proofs.numbers.scalars_total_of.Given as goal

abbrev pub invariant-loop-scalar : goal.invariant-loop-scalar
invariant-loop-scalar l =
    (l.sum +ℤ scalars_total (drop l.scalar-index l.scalars) ≡ scalars_total l.scalars) × (neg_ℤ (pos (2 ^ 63 * l.scalar-index)) ≤ℤ l.sum) × (l.sum ≤ℤ pos (2 ^ 63 * l.scalar-index))
