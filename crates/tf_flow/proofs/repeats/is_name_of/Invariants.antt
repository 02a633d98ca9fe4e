use Rattle.std.proofs.Common.{◌≡◌, map, drop}
use Rattle.tf_flow.specs.Tree.{is_among}
use Rattle.tf_flow.proofs.repeats.is_name_of.Given as goal

abbrev pub invariant-loop-item : goal.invariant-loop-item
invariant-loop-item g l = is_among (map g.T.Named.named (drop l.item-index l.items)) l.name ≡ is_among (map g.T.Named.named l.items) l.name
