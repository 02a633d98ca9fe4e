use Rattle.std.proofs.Common.{◌≡◌, ℕ, ◌<◌, false}
use Rattle.tf_model.specs.Plan.{outline_of}
use Rattle.tf_model.specs.Forced.{is_to_put_back}
use Rattle.tf_machine.specs.Tables.{shown_by}
use Rattle.tf_machine.proofs.entries.first_to_put_back.Given as goal

abbrev pub invariant-loop-atom : goal.invariant-loop-atom
invariant-loop-atom l = (a : ℕ) → a < l.atom → is_to_put_back (outline_of l.compiled) (shown_by l.tables) l.retry a ≡ false
