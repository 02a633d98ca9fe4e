use Rattle.std.proofs.Common.{◌≡◌, ◌*◌}
use Rattle.tf_numbers.specs.Numbers.{which_below}
use Rattle.tf_links.specs.Bits.{has}
use Rattle.tf_links.proofs.bits.Bits.numbers.Given as goal

abbrev pub invariant-loop-i : goal.invariant-loop-i
invariant-loop-i l = l.numbers.items ≡ which_below (64 * l.i) (has l.self)
