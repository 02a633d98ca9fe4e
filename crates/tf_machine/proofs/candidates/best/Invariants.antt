use Rattle.std.proofs.Common.{◌≡◌}
use Rattle.tf_model.specs.Plan.{outline_of}
use Rattle.tf_machine.specs.Best.{best_below}
use Rattle.tf_machine.specs.Tables.{shown_by}
use Rattle.tf_machine.proofs.candidates.best.Given as goal

abbrev pub invariant-loop-atom : goal.invariant-loop-atom
invariant-loop-atom l = l.best ≡ best_below (outline_of l.compiled) (shown_by l.tables) l.atom
