use Rattle.std.proofs.Common.{◌≡◌, ◌≤◌, ◌+◌, ◌-◌, ◌++◌, map}
use Rattle.tf_flow.specs.Tree.{item_tree}
use Rattle.tf_demo.specs.Demo.{after, tasks_from}
use Rattle.tf_demo.proofs.groups.tasks.Given as goal

-- the tasks so far, followed by those of what is left, are all of them
abbrev pub invariant-loop-place : goal.invariant-loop-place
invariant-loop-place l = record {
  small : l.state ≤ 65536;
  draws : after (l.count - l.place) l.state ≡ after l.count l.fn.state;
  made : map item_tree l.items.items ++ tasks_from l.group (l.count - l.place) (l.first + l.place) l.state ≡ tasks_from l.group l.count l.first l.fn.state;
}
