use Rattle.std.proofs.Common.{◌≡◌, true}
use Rattle.tf_numbers.specs.Numbers.{all_below}
use Rattle.tf_model.specs.Forced.{is_done_at}
use Rattle.tf_machine.specs.Tables.{shown_by}
use Rattle.tf_machine.proofs.ending.are_all_done.Given as goal

abbrev pub invariant-loop-atom : goal.invariant-loop-atom
invariant-loop-atom l = all_below l.atom (is_done_at (shown_by l.tables)) ≡ true
