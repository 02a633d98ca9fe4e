use Rattle.std.proofs.Common.{◌≡◌, take, map}
use Rattle.tf_model.specs.Before.{item_name}
use Rattle.tf_order.specs.Context.{place_seen}
use Rattle.tf_order.proofs.ambiguities.names_of.Given as goal

abbrev pub invariant-loop-item : goal.invariant-loop-item
invariant-loop-item l = l.names.items ≡ map (item_name (place_seen l.context)) (take l.item-index l.items)
