use Rattle.std.proofs.Common.{take}
use Rattle.tf_machine.specs.Compiled.{AreNoGreater}
use Rattle.tf_machine.proofs.compiled.greatest.Given as goal

abbrev pub invariant-loop-number : goal.invariant-loop-number
invariant-loop-number l = AreNoGreater l.greatest (take l.number-index l.numbers)
