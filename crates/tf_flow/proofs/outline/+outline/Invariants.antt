use Rattle.std.proofs.Common.{◌≡◌, ◌++◌, drop, map, max}
use Rattle.tf_flow.specs.Limits.{capped}
use Rattle.tf_flow.specs.Tree.{places_among, tree_order, item_tree, trees_of, deepest}
use Rattle.tf_flow.specs.Shown.{shown_places}
use Rattle.tf_flow.proofs.outline.+outline.Given as goal

abbrev pub invariant-add_flow-loop-item : goal.invariant-add_flow-loop-item
invariant-add_flow-loop-item l = record {
  listed : shown_places l.order.items ++ places_among (trees_of (map item_tree (drop l.item-index l.item-items))) ≡ shown_places l.fn.order.items ++ tree_order l.flow;
  nested : max l.below (capped (deepest (trees_of (map item_tree (drop l.item-index l.item-items))))) ≡ capped (deepest (trees_of (map item_tree l.item-items)));
}
