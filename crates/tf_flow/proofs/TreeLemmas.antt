-- The tree of a flow, level by level.
use Rattle.std.proofs.Common.{◌≡◌, map, rules}
use Rattle.tf_flow.specs.declared.atoms.Task.{Task as TaskValue}
use Rattle.tf_flow.specs.declared.nested.Flow.{Flow as FlowValue}
use Rattle.tf_flow.specs.declared.nested.Item.{the_lemmas}
use Rattle.tf_flow.specs.declared.nested.Item.TheVariants.{Task, Flow}
use Rattle.tf_flow.specs.Tree.{task, flow, tree_of, item_tree, trees_of}

pub tree_of-flow : (f : FlowValue) → tree_of f ≡ flow record { name = f.name; kind = f.kind; retry = f.retry; links = f.links } (trees_of (map item_tree f.items.items.items))
tree_of-flow f = search (rules, the_lemmas)

pub item_tree-task : (t : TaskValue) → item_tree (Task t) ≡ task t
item_tree-task t = search (rules, the_lemmas)

pub item_tree-flow : (f : FlowValue) → item_tree (Flow f) ≡ tree_of f
item_tree-flow f = search (rules, the_lemmas)
