use Rattle.std.proofs.Common.{◌-◌, drop, length}
use Rattle.tf_machine.proofs.CountLemmas.{AreStepped}
use Rattle.tf_machine.proofs.counters.step_each.Given as goal

abbrev pub invariant-loop-start : goal.invariant-loop-start
invariant-loop-start l = AreStepped l.more l.atoms (drop l.start l.atoms) l.initial.counts l.counts

abbrev pub decreases-loop-start : goal.decreases-loop-start
decreases-loop-start l = length l.atoms - l.start
