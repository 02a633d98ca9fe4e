use Rattle.tf_model.specs.Plan.{outline_of}
use Rattle.tf_machine.specs.Changes.{changed}
use Rattle.tf_machine.proofs.ChangeLemmas.{AreChangedBelow}
use Rattle.tf_machine.proofs.tables.change_each.Given as goal

abbrev pub invariant-loop-atom : goal.invariant-loop-atom
invariant-loop-atom l = AreChangedBelow (changed (outline_of l.compiled) l.change) l.atom l.initial.places l.places
