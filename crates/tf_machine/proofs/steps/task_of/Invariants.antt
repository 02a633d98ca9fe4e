use Rattle.std.proofs.Common.{◌≡◌, None}
use Rattle.tf_numbers.specs.Numbers.{first_below}
use Rattle.tf_hands.specs.Hands.{is_with}
use Rattle.tf_machine.specs.Tables.{shown_by}
use Rattle.tf_machine.proofs.steps.task_of.Given as goal

abbrev pub invariant-loop-atom : goal.invariant-loop-atom
invariant-loop-atom l = first_below l.atom (is_with (shown_by l.tables) l.hand) ≡ None
