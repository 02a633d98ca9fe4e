use Rattle.std.proofs.Common.{◌≡◌, true}
use Rattle.tf_numbers.specs.Numbers.{all_below}
use Rattle.tf_model.specs.Steps.{is_idle}
use Rattle.tf_machine.specs.Tables.{shown_by}
use Rattle.tf_machine.proofs.steps.is_still.Given as goal

abbrev pub invariant-loop-atom : goal.invariant-loop-atom
invariant-loop-atom l = all_below l.atom (is_idle (shown_by l.tables)) ≡ true
