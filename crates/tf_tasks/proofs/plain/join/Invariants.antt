use Rattle.std.proofs.Common.{◌≡◌, take}
use Rattle.tf_actions.specs.Built.{joined}
use Rattle.tf_tasks.proofs.plain.join.Given as goal

abbrev pub invariant-loop-pair : goal.invariant-loop-pair
invariant-loop-pair l = l.bytes.items ≡ joined (take l.pair-index l.pairs)
