use Rattle.std.proofs.Common.{◌≡◌, take}
use Rattle.std.specs.List.{flat_map}
use Rattle.tf_actions.specs.Built.{spread_pair}
use Rattle.tf_tasks.proofs.lists.spread_all.Given as goal

abbrev pub invariant-loop-pair : goal.invariant-loop-pair
invariant-loop-pair l = l.scalars.items ≡ flat_map spread_pair (take l.pair-index l.pairs)
