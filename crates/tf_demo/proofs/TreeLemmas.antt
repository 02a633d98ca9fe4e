-- The tree of a flow, level by level.
use Rattle.std.proofs.Common.{◌≡◌, map}
use Rattle.tf_flow.specs.declared.nested.Flow.{Flow}
use Rattle.tf_flow.specs.Tree.{flow, tree_of, item_tree, trees_of}
use Rattle.tf_flow.proofs.TreeLemmas.{tree_of-flow}

pub flow_tree : (f : Flow) → tree_of f ≡ flow record { name = f.name; kind = f.kind; retry = f.retry; links = f.links } (trees_of (map item_tree f.items.items.items))
flow_tree f = tree_of-flow f
