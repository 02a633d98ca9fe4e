use Rattle.std.proofs.Common.{◌≡◌, take}
use Rattle.tf_flow.specs.Rules as rule
use Rattle.tf_flow.specs.Shown.{members}
use Rattle.tf_flow.proofs.link_rules.member_names.Given as goal

abbrev pub invariant-loop-item : goal.invariant-loop-item
invariant-loop-item l = l.names.items ≡ rule.member_names (members (take l.item-index l.items))
