-- What a path through a tree leads to.
use Rattle.std.specs.Prelude.{ℕ, zero, suc, List, [], ◌∷◌, Option, Some, None, option_map}
use Rattle.tf_flow.specs.declared.atoms.Retry.{Retry}
use Rattle.tf_flow.specs.declared.paths.Part.{Part as CodePart}
use Rattle.tf_flow.specs.declared.paths.Part.TheVariants as code
use Rattle.tf_flow.specs.declared.paths.Turn.{Turn}
use Rattle.tf_flow.specs.Outline.{Part, a_task, a_retry}
use Rattle.tf_flow.specs.Tree.{Tree, Trees, task, flow, no_trees, tree}

-- what the code shows as an atom
abbrev pub shown_part : CodePart → Part
shown_part (code.Task t) = a_task t.now
shown_part (code.Retry r) = a_retry r.now

-- the tree at a place of several
abbrev pub tree_in : Trees → ℕ → Option Tree
tree_in no_trees i = None
tree_in (tree first others) zero = Some first
tree_in (tree first others) (suc i) = tree_in others i

-- the retry controller where a turn takes no item, or what is found below the item that it takes
abbrev pub part_by : Option Retry → Option ℕ → (ℕ → Option Part) → Option Part
part_by retry None below = option_map a_retry retry
part_by retry (Some i) below = below i

-- the atom to which a path leads from a tree, where there is one: a task at once, and in a flow what its turn takes
abbrev pub part_on : Option Tree → List Turn → Option Part
part_on None path = None
part_on (Some (task t)) path = Some (a_task t)
part_on (Some (flow head items)) [] = None
part_on (Some (flow head items)) (turn ∷ path) = part_by head.retry turn.item (λ i. part_on (tree_in items i) path)

-- the atom to which a path leads
abbrev pub part_at : Tree → List Turn → Option Part
part_at t path = part_on (Some t) path

-- what is found below the item that a turn takes, where it takes one
abbrev pub flow_by : Option ℕ → (ℕ → Option Tree) → Option Tree
flow_by None below = None
flow_by (Some i) below = below i

-- the flow to which a path leads from a tree, where there is one
abbrev pub flow_on : Option Tree → List Turn → Option Tree
flow_on None path = None
flow_on (Some (task t)) path = None
flow_on (Some (flow head items)) [] = Some (flow head items)
flow_on (Some (flow head items)) (turn ∷ path) = flow_by turn.item (λ i. flow_on (tree_in items i) path)

-- the flow to which a path leads
abbrev pub flow_at_end : Tree → List Turn → Option Tree
flow_at_end t path = flow_on (Some t) path
