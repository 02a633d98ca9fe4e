use Rattle.std.proofs.Common.{◌≡◌, None}
use Rattle.tf_numbers.specs.Numbers.{first_below}
use Rattle.tf_model.specs.Steps.{is_put_back_at}
use Rattle.tf_machine.specs.Machine.{shown}
use Rattle.tf_book.proofs.putting_back.first_put_back.Given as goal

abbrev pub invariant-loop-atom : goal.invariant-loop-atom
invariant-loop-atom l = first_below l.atom (is_put_back_at (shown l.machine)) ≡ None
