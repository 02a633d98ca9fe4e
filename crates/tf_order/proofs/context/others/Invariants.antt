use Rattle.std.proofs.Common.{◌≡◌, take, filter}
use Rattle.tf_order.specs.Marks.{is_other}
use Rattle.tf_order.proofs.context.others.Given as goal

abbrev pub invariant-loop-other : goal.invariant-loop-other
invariant-loop-other l = l.others.items ≡ filter (is_other l.item) (take l.other-index l.items)
