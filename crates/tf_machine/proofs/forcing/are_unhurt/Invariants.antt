use Rattle.std.proofs.Common.{◌≡◌, true}
use Rattle.tf_numbers.specs.Numbers.{all_below}
use Rattle.tf_model.specs.Forced.{is_unhurt_at}
use Rattle.tf_machine.specs.Tables.{shown_by}
use Rattle.tf_machine.proofs.forcing.are_unhurt.Given as goal

abbrev pub invariant-loop-atom : goal.invariant-loop-atom
invariant-loop-atom l = all_below l.atom (is_unhurt_at (shown_by l.tables)) ≡ true
