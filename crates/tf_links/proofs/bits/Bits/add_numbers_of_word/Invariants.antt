use Rattle.std.proofs.Common.{◌≡◌, ◌-◌, ◌*◌, ◌+◌, ◌≤◌}
use Rattle.tf_numbers.specs.Numbers.{which_below}
use Rattle.tf_links.specs.Bits.{has}
use Rattle.tf_links.proofs.bits.Bits.add_numbers_of_word.Given as goal

abbrev pub invariant-loop-bit : goal.invariant-loop-bit
invariant-loop-bit l = record {
  room : l.bit ≤ 64;
  so_far : l.numbers.items ≡ which_below (64 * l.i + l.bit) (has l.self);
}

abbrev pub decreases-loop-bit : goal.decreases-loop-bit
decreases-loop-bit l = 64 - l.bit
