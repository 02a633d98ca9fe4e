use Rattle.std.proofs.Common.{◌≡◌, map, take}
use Rattle.tf_model.specs.Plan.{outline_of}
use Rattle.tf_machine.specs.Compiled.{priority_at}
use Rattle.tf_machine.proofs.compiled.priorities.Given as goal

abbrev pub invariant-loop-atom : goal.invariant-loop-atom
invariant-loop-atom l = l.priorities.items ≡ map priority_at (take l.atom (outline_of l.plan).atoms)
