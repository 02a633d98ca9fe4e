use Rattle.std.proofs.Common.{◌-◌, drop, length}
use Rattle.tf_model.specs.Plan.{outline_of}
use Rattle.tf_machine.specs.Tables.{shown_by}
use Rattle.tf_machine.proofs.ListedLemmas.{AreSoFar}
use Rattle.tf_machine.proofs.worklists.Worklist.list_each.Given as goal

abbrev pub invariant-loop-start : goal.invariant-loop-start
invariant-loop-start l = AreSoFar (outline_of l.compiled) (shown_by l.tables) l.reach l.atoms (drop l.start l.atoms) l.initial.self l.self

abbrev pub decreases-loop-start : goal.decreases-loop-start
decreases-loop-start l = length l.atoms - l.start
