use Rattle.std.proofs.Common.{◌≡◌, ℕ, ◌<◌, true}
use Rattle.tf_model.specs.Plan.{outline_of}
use Rattle.tf_model.specs.Forced.{is_settled_beside}
use Rattle.tf_machine.specs.Tables.{shown_by}
use Rattle.tf_machine.proofs.cases.are_settled_beside.Given as goal

abbrev pub invariant-loop-atom : goal.invariant-loop-atom
invariant-loop-atom l = (a : ℕ) → a < l.atom → is_settled_beside (outline_of l.compiled) (shown_by l.tables) l.retry a ≡ true
