use Rattle.std.proofs.Common.{◌≡◌, take, drop}
use Rattle.tf_flow.specs.Tree.{first_again, first_again_after}
use Rattle.tf_flow.proofs.repeats.indexed.Given as goal

abbrev pub invariant-loop-item : goal.invariant-loop-item
invariant-loop-item g l = record {
  kept : l.index.keys ≡ take l.item-index l.items;
  again : first_again_after g.T.PartialEq.eq (take l.item-index l.items) (drop l.item-index l.items) ≡ first_again g.T.PartialEq.eq l.items;
}
