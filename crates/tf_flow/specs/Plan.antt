-- A plan, and how it is written.
use Rattle.std.specs.Prelude.{◌≡◌, ℕ, List, Bool, Option, None, map, option_map, slice_get, [], ◌∷◌}
use Rattle.tf_flow.specs.declared.atoms.Bind.{Bind}
use Rattle.tf_flow.specs.declared.nested.Flow.{Flow}
use Rattle.tf_flow.specs.Tree.{tree_order, atom_names, retry_marks, flow_names, Tree, tree_of, task, flow as flow_tree, Trees, no_trees, tree, Head, item_tree}
use Rattle.tf_flow.specs.Rules.{first_refusal}
use Rattle.tf_flow.specs.Outline.{Part, atoms_of, atom_path, part_of, flow_paths, flow_trees, Connection, connection_of}
use Rattle.tf_flow.specs.declared.paths.Turn.{Turn}
use Rattle.tf_flow.specs.declared.atoms.Retry.{Retry}
use Rattle.tf_flow.specs.declared.atoms.Task.{Task}
use Rattle.tf_flow.specs.declared.nested.FlowKind.{FlowKind}
use Rattle.tf_flow.specs.declared.nested.Item.{Item}

-- ---- a plan, and the numbers of its atoms and flows

-- what a plan stands for: a root flow, the values of the store, and whether a retry leaves its answer
-- to the one around it
pub record PlanValue : Type 0 where
  pub root : Flow
  pub store : List Bind
  pub defer : Bool

-- the names of a plan's atoms, which of them are retry controllers, and the names of its flows, by number
abbrev pub atoms : PlanValue → List (List ℕ)
atoms plan = atom_names (tree_order plan.root)

abbrev pub retries : PlanValue → List Bool
retries plan = retry_marks (tree_order plan.root)

abbrev pub flows : PlanValue → List (List ℕ)
flows plan = flow_names (tree_order plan.root)

-- the paths from the root to a plan's atoms, and to its flows, by number
abbrev pub paths : PlanValue → List (List Turn)
paths plan = map atom_path (atoms_of 0 (tree_of plan.root))

abbrev pub paths_to_flows : PlanValue → List (List Turn)
paths_to_flows plan = flow_paths 0 (tree_of plan.root)

-- the atom of a number
abbrev pub part : PlanValue → ℕ → Option Part
part plan a = option_map part_of (slice_get (atoms_of 0 (tree_of plan.root)) a)

-- the flow of a number, with what stands in it
abbrev pub flow : PlanValue → ℕ → Option Tree
flow plan g = slice_get (flow_trees (tree_of plan.root)) g

-- what a plan keeps beside its flows is what tree order says, and nothing is refused
pub record IsNumbered (root : Flow) (store : List Bind) (names : List (List ℕ)) (marks : List Bool)
    (levels : List (List ℕ)) (to_atoms to_flows : List (List Turn)) : Type 0 where
  pub atoms_named : names ≡ atom_names (tree_order root)
  pub retries_marked : marks ≡ retry_marks (tree_order root)
  pub flows_named : levels ≡ flow_names (tree_order root)
  pub atoms_reached : to_atoms ≡ map atom_path (atoms_of 0 (tree_of root))
  pub flows_reached : to_flows ≡ flow_paths 0 (tree_of root)
  pub accepted : first_refusal root store ≡ None

-- ---- flows and plans as they are written: trees in which the tests of deciders are trees too

-- what a flow has beside its items
pub record WrittenHead : Type 0 where
  pub name : List ℕ
  pub kind : FlowKind
  pub retry : Option Retry
  pub links : List Connection

-- a task, or a flow with what is written for each of its items
mutual
  pub data WrittenTree : Type 0 where
    written_task : Task → WrittenTree
    written_flow : WrittenHead → WrittenTrees → WrittenTree

  pub data WrittenTrees : Type 0 where
    nothing_written : WrittenTrees
    written : WrittenTree → WrittenTrees → WrittenTrees

-- what is written in a list, one after another
abbrev pub written_trees : List WrittenTree → WrittenTrees
written_trees [] = nothing_written
written_trees (first ∷ others) = written first (written_trees others)

-- what is written of a flow beside its items
abbrev pub head_as_written : Head → WrittenHead
head_as_written head =
    record { name = head.name; kind = head.kind; retry = head.retry; links = map connection_of head.links }

-- a tree as it is written
abbrev mutual
  pub as_written : Tree → WrittenTree
  as_written (task t) = written_task t
  as_written (flow_tree head items) = written_flow (head_as_written head) (all_as_written items)

  pub all_as_written : Trees → WrittenTrees
  all_as_written no_trees = nothing_written
  all_as_written (tree first others) = written (as_written first) (all_as_written others)

-- an item as it is written
abbrev pub item_as_written : Item → WrittenTree
item_as_written item = as_written (item_tree item)

-- a plan as its tree, the values of its store and whether reverts are deferred
pub record PlanTree : Type 0 where
  pub root : Tree
  pub store : List Bind
  pub defer : Bool

-- the tree of a plan
abbrev pub plan_tree : PlanValue → PlanTree
plan_tree plan = record { root = tree_of plan.root; store = plan.store; defer = plan.defer }

-- the same of what is written
pub record WrittenPlan : Type 0 where
  pub root : WrittenTree
  pub store : List Bind
  pub defer : Bool

-- a plan as it is written
abbrev pub plan_as_written : PlanTree → WrittenPlan
plan_as_written plan = record { root = as_written plan.root; store = plan.store; defer = plan.defer }
