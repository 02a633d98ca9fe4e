use Rattle.std.proofs.Common.{◌≡◌, true}
use Rattle.tf_numbers.specs.Numbers.{all_below}
use Rattle.tf_model.specs.Steps.{is_settled_at}
use Rattle.tf_machine.specs.Machine.{shown}
use Rattle.tf_book.proofs.putting_back.are_settled.Given as goal

abbrev pub invariant-loop-atom : goal.invariant-loop-atom
invariant-loop-atom l = all_below l.atom (is_settled_at (shown l.machine)) ≡ true
