use Rattle.std.proofs.Common.{◌≡◌, is_some, map, take, drop}
use Rattle.tf_flow.specs.Tree.{first_again_after, same_name, has_twice}
use Rattle.tf_flow.proofs.repeats.has_twice_in_set.Given as goal

abbrev pub invariant-loop-item : goal.invariant-loop-item
invariant-loop-item g l = record {
  kept : l.names.keys ≡ map g.T.Named.named (take l.item-index l.items);
  again : is_some (first_again_after same_name (map g.T.Named.named (take l.item-index l.items)) (map g.T.Named.named (drop l.item-index l.items))) ≡ has_twice (map g.T.Named.named l.items);
}
