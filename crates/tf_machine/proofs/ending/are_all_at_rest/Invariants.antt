use Rattle.std.proofs.Common.{◌≡◌, true}
use Rattle.tf_numbers.specs.Numbers.{all_below}
use Rattle.tf_model.specs.Forced.{is_at_rest}
use Rattle.tf_machine.specs.Tables.{shown_by}
use Rattle.tf_machine.proofs.ending.are_all_at_rest.Given as goal

abbrev pub invariant-loop-atom : goal.invariant-loop-atom
invariant-loop-atom l = all_below l.atom (is_at_rest (shown_by l.tables)) ≡ true
