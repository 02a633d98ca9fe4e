use Rattle.std.proofs.Common.{◌≡◌, drop}
use Rattle.tf_model.specs.Plan.{least}
use Rattle.tf_order.proofs.ambiguities.least.Given as goal

abbrev pub invariant-loop-i : goal.invariant-loop-i
invariant-loop-i l = l.best ≡ least (drop l.i l.names)
