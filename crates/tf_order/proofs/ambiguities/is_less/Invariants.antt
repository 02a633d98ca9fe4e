use Rattle.std.proofs.Common.{◌≡◌, drop}
use Rattle.tf_model.specs.Plan.{name_less}
use Rattle.tf_order.proofs.ambiguities.is_less.Given as goal

abbrev pub invariant-loop-i : goal.invariant-loop-i
invariant-loop-i l = name_less (drop l.i l.a) (drop l.i l.b) ≡ name_less l.a l.b
