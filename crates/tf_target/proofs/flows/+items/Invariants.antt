use Rattle.std.proofs.Common.{◌≡◌, map, take}
use Rattle.tf_flow.specs.Plan.{item_as_written}
use Rattle.tf_target.proofs.flows.+items.Given as goal

abbrev pub invariant-copy_items-loop-item : goal.invariant-copy_items-loop-item
invariant-copy_items-loop-item l = map item_as_written l.copies.items ≡ map item_as_written (take l.item-index l.items)
