use Rattle.tf_model.specs.Plan.{outline_of}
use Rattle.tf_machine.specs.Tables.{shown_by}
use Rattle.tf_machine.proofs.ListedLemmas.{IsListedBelow}
use Rattle.tf_machine.proofs.worklists.Worklist.list_span.Given as goal

abbrev pub invariant-loop-atom : goal.invariant-loop-atom
invariant-loop-atom l = IsListedBelow (outline_of l.compiled) (shown_by l.tables) l.fn.span.first l.atom l.initial.self l.self
