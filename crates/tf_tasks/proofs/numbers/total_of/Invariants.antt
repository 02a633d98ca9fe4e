use Rattle.std.proofs.Common.{◌≡◌, ◌*◌, ◌^◌, drop, pos, ◌+ℤ◌, neg_ℤ, ◌≤ℤ◌}
use Rattle.tf_actions.specs.Built.{total}
use Rattle.tf_tasks.proofs.numbers.total_of.Given as goal

abbrev pub invariant-loop-pair : goal.invariant-loop-pair
invariant-loop-pair l =
    (l.sum +ℤ total (drop l.pair-index l.pairs) ≡ total l.pairs) × (neg_ℤ (pos (2 ^ 73 * l.pair-index)) ≤ℤ l.sum) × (l.sum ≤ℤ pos (2 ^ 73 * l.pair-index))
