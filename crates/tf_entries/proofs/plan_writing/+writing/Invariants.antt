use Rattle.std.proofs.Common.{◌≡◌, ◌++◌, take}
use Rattle.std.specs.List.{flat_map, AllByRecursion}
use Rattle.tf_entries.specs.Shown.{item_bytes, IsItem}
use Rattle.tf_entries.proofs.plan_writing.+writing.Given as goal

abbrev pub invariant-each_item-loop-item : goal.invariant-each_item-loop-item
invariant-each_item-loop-item l = record {
  appended : l.out.items ≡ l.initial.out.items ++ flat_map item_bytes (take l.item-index l.items);
  good : AllByRecursion IsItem (take l.item-index l.items);
}
