use Rattle.std.proofs.Common.{take}
use Rattle.std.specs.List.{AllByRecursion}
use Rattle.tf_flow.specs.Tree.{item_tree}
use Rattle.tf_bound.specs.Short.{IsShortControl, IsShortTree}
use Rattle.tf_bound.proofs.limits.+short.Given as goal

abbrev pub invariant-flow_is_short-loop-item : goal.invariant-flow_is_short-loop-item
invariant-flow_is_short-loop-item l = record {
  control : IsShortControl l.flow.retry;
  items : AllByRecursion (λ item. IsShortTree (item_tree item)) (take l.item-index l.item-items);
}
