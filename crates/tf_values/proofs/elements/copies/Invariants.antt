use Rattle.std.proofs.Common.{◌≡◌, take}
use Rattle.tf_values.proofs.elements.copies.Given as goal

abbrev pub invariant-loop-scalar : goal.invariant-loop-scalar
invariant-loop-scalar l = l.copies.items ≡ take l.scalar-index l.scalars
