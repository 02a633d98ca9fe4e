use Rattle.std.proofs.Common.{◌≡◌, drop}
use Rattle.std.specs.List.{list_all}
use Rattle.tf_actions.specs.Built.{is_integer}
use Rattle.tf_tasks.proofs.numbers.are_integers.Given as goal

abbrev pub invariant-loop-scalar : goal.invariant-loop-scalar
invariant-loop-scalar l = list_all is_integer (drop l.scalar-index l.scalars) ≡ list_all is_integer l.scalars
