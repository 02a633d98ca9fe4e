use Rattle.std.proofs.Common.{◌≡◌, take}
use Rattle.tf_flow.specs.Rules as rule
use Rattle.tf_flow.specs.Shown.{members}
use Rattle.tf_flow.proofs.link_rules.nested_names.Given as goal

abbrev pub invariant-loop-item : goal.invariant-loop-item
invariant-loop-item l = l.names.items ≡ rule.nested_names (members (take l.item-index l.items))
