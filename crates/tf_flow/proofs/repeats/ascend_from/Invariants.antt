use Rattle.std.proofs.Common.{◌≡◌, map, drop}
use Rattle.tf_flow.specs.Ascending.{ascend_from}
use Rattle.tf_flow.proofs.repeats.ascend_from.Given as goal

abbrev pub invariant-loop-item : goal.invariant-loop-item
invariant-loop-item g l = ascend_from (g.T.Named.named l.last) (map g.T.Named.named (drop l.item-index l.items)) ≡ ascend_from (g.T.Named.named l.first) (map g.T.Named.named l.items)
