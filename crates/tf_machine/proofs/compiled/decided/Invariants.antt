use Rattle.tf_model.specs.Plan.{outline_of}
use Rattle.tf_machine.proofs.DecidedLemmas.{AreDecidedBelow}
use Rattle.tf_machine.proofs.compiled.decided.Given as goal

abbrev pub invariant-loop-atom : goal.invariant-loop-atom
invariant-loop-atom l = AreDecidedBelow (outline_of l.plan) l.atom l.decided.items
