use Rattle.std.proofs.Common.{◌≡◌, ◌++◌, take}
use Rattle.tf_tasks.proofs.lists.append_copies.Given as goal

abbrev pub invariant-loop-scalar : goal.invariant-loop-scalar
invariant-loop-scalar l = l.out.items ≡ l.fn.out.items ++ take l.scalar-index l.scalars
