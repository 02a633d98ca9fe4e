use Rattle.std.proofs.Common.{take}
use Rattle.std.specs.List.{AllByRecursion}
use Rattle.tf_bound.specs.Short.{IsShortBind}
use Rattle.tf_bound.proofs.limits.binds_are_short.Given as goal

abbrev pub invariant-loop-bind : goal.invariant-loop-bind
invariant-loop-bind l = AllByRecursion IsShortBind (take l.bind-index l.binds)
