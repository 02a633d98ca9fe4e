use Rattle.std.proofs.Common.{◌≡◌, ℕ, ◌+◌, ◌-◌, length}
use Rattle.tf_order.specs.Rows.{row_at}
use Rattle.tf_order.proofs.direct.add_rows.Given as goal

abbrev pub invariant-more : goal.invariant-more
invariant-more l = (k : ℕ) → row_at l.rows.items k ≡ row_at l.fn.rows.items k

abbrev pub decreases-more : goal.decreases-more
decreases-more l = (l.number + 1) - length l.rows.items
