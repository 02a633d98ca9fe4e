use Rattle.tf_model.specs.Plan.{outline_of}
use Rattle.tf_machine.proofs.CountLemmas.{AreFirst}
use Rattle.tf_machine.proofs.counters.Counters.make.Given as goal

abbrev pub invariant-loop-atom : goal.invariant-loop-atom
invariant-loop-atom l = AreFirst (outline_of l.compiled) l.atom l.waiting.items l.holding.items
