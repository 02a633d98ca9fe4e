use Rattle.std.proofs.Common.{◌≡◌, take}
use Rattle.tf_values.proofs.equality.same_scalars.Given as goal

abbrev pub invariant-loop-index : goal.invariant-loop-index
invariant-loop-index l = take l.index l.scalars ≡ take l.index l.others
