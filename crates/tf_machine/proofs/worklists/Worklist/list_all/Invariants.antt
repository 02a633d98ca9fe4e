use Rattle.tf_model.specs.Plan.{outline_of}
use Rattle.tf_machine.specs.Tables.{shown_by}
use Rattle.tf_machine.proofs.ListedLemmas.{AllListed}
use Rattle.tf_machine.proofs.worklists.Worklist.list_all.Given as goal

abbrev pub invariant-loop-atom : goal.invariant-loop-atom
invariant-loop-atom l = AllListed (outline_of l.compiled) (shown_by l.tables) l.atom l.self
