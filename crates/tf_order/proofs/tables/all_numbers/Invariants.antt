use Rattle.std.proofs.Common.{◌≡◌}
use Rattle.tf_numbers.specs.Numbers.{numbers_below}
use Rattle.tf_order.proofs.tables.all_numbers.Given as goal

abbrev pub invariant-loop-number : goal.invariant-loop-number
invariant-loop-number l = l.numbers.items ≡ numbers_below l.number
