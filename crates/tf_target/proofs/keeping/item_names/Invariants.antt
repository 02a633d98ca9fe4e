use Rattle.std.proofs.Common.{◌≡◌, take}
use Rattle.tf_flow.specs.Rules.{member_names}
use Rattle.tf_flow.specs.Shown.{members}
use Rattle.tf_target.proofs.keeping.item_names.Given as goal

abbrev pub invariant-loop-item : goal.invariant-loop-item
invariant-loop-item l = l.names.items ≡ member_names (members (take l.item-index l.items))
