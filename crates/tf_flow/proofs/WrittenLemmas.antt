-- What is written of a flow and of its items.
use Rattle.std.proofs.Common.{◌≡◌, ◌∙◌, List, [], ◌∷◌, map, refl, ap}
use Rattle.tf_flow.proofs.TreeLemmas.{tree_of-flow, item_tree-task, item_tree-flow}
use Rattle.tf_flow.specs.Outline.{connection_of}
use Rattle.tf_flow.specs.declared.nested.Flow.{Flow}
use Rattle.tf_flow.specs.declared.atoms.Task.{Task as TaskValue}
use Rattle.tf_flow.specs.declared.nested.Item.{Item}
use Rattle.tf_flow.specs.declared.nested.Item.TheVariants as item
use Rattle.tf_flow.specs.Tree.{tree_of, item_tree, trees_of}
use Rattle.tf_flow.specs.Plan.{written_task, written_flow, written, written_trees, as_written, all_as_written, item_as_written}

items_written : (items : List Item) → all_as_written (trees_of (map item_tree items)) ≡ written_trees (map item_as_written items)
items_written [] = refl
items_written (item ∷ items) = ap (λ others. written (item_as_written item) others) (items_written items)

-- a flow with its items
pub flow_written : (f : Flow) → as_written (tree_of f) ≡ written_flow record { name = f.name; kind = f.kind; retry = f.retry; links = map connection_of f.links } (written_trees (map item_as_written f.items.items.items))
flow_written f =
    ap as_written (tree_of-flow f)
    ∙ ap (λ others. written_flow record { name = f.name; kind = f.kind; retry = f.retry; links = map connection_of f.links } others) (items_written f.items.items.items)

-- an item that is a task, and one that is a flow
pub task_as_written : (t : TaskValue) → item_as_written (item.Task t) ≡ written_task t
task_as_written t = ap as_written (item_tree-task t)

pub nested_as_written : (f : Flow) → item_as_written (item.Flow f) ≡ as_written (tree_of f)
nested_as_written f = ap as_written (item_tree-flow f)

pub ruleset items_as_written = (task_as_written, nested_as_written)
