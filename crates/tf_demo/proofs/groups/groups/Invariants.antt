use Rattle.std.proofs.Common.{◌≡◌, ◌≤◌, ◌-◌, ◌++◌, map}
use Rattle.tf_flow.specs.Tree.{item_tree}
use Rattle.tf_demo.specs.Demo.{group_count, groups_from}
use Rattle.tf_demo.proofs.groups.groups.Given as goal

-- the groups so far, followed by those of what is left, are all of them
abbrev pub invariant-loop-group : goal.invariant-loop-group
invariant-loop-group l = record {
  small : l.state ≤ 65536;
  made : map item_tree l.items.items ++ groups_from l.size (group_count l.size - l.group) l.group l.state ≡ groups_from l.size (group_count l.size) 0 l.seed;
}
