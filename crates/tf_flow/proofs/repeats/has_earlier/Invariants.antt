use Rattle.std.proofs.Common.{◌≡◌, is_some, map, take, drop}
use Rattle.tf_flow.specs.Tree.{first_again_after, same_name, has_twice}
use Rattle.tf_flow.proofs.repeats.has_earlier.Given as goal

abbrev pub invariant-loop-number : goal.invariant-loop-number
invariant-loop-number g l = is_some (first_again_after same_name (map g.T.Named.named (take l.number l.items)) (map g.T.Named.named (drop l.number l.items))) ≡ has_twice (map g.T.Named.named l.items)
