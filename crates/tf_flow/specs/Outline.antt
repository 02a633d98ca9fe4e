-- The nested tree as lists: its atoms, its flows and their links, in tree order.
use Rattle.std.specs.Prelude.{ℕ, ℤ, List, [], ◌∷◌, Option, Some, None, pos, suc, ◌+◌, ◌++◌, map, Bool, true, false}
use Rattle.tf_values.specs.declared.value.Val.{Val}
use Rattle.tf_flow.specs.declared.deciders.Decider.{Decider}
use Rattle.tf_flow.specs.declared.deciders.Depth.{Depth}
use Rattle.tf_flow.specs.declared.deciders.Link.{Link}
use Rattle.tf_flow.specs.declared.deciders.Test.{Test}
use Rattle.tf_flow.specs.declared.deciders.Test.TheOpen.{Test-F, Tests-F}
use Rattle.tf_flow.specs.declared.deciders.Test.TheFolds.{fold-Test}
use Rattle.tf_flow.specs.declared.atoms.Arg.{Arg}
use Rattle.tf_flow.specs.declared.atoms.Bind.{Bind}
use Rattle.tf_flow.specs.declared.atoms.Provides.{Provides}
use Rattle.tf_flow.specs.declared.atoms.Retry.{Retry}
use Rattle.tf_flow.specs.declared.atoms.Task.{Task}
use Rattle.tf_flow.specs.declared.nested.FlowKind.{FlowKind}
use Rattle.tf_flow.specs.declared.paths.Turn.{Turn}
use Rattle.tf_flow.specs.Tree.{Tree, Trees, task, flow, no_trees, tree, Head}

-- ---- the links of a flow as they are written, with the tests of their deciders as trees

-- a test over results: one is a value, below a number or above it; or a test isn't true, or each of
-- several is, or one of them
mutual
  pub data Condition : Type 0 where
    is_same : List ℕ → Val → Condition
    is_below : List ℕ → ℤ → Condition
    is_above : List ℕ → ℤ → Condition
    negated : Condition → Condition
    all_of : Conditions → Condition
    any_of : Conditions → Condition

  pub data Conditions : Type 0 where
    no_conditions : Conditions
    condition : Condition → Conditions → Conditions

-- the trees of a list, one after another
abbrev pub conditions_of : List Condition → Conditions
conditions_of [] = no_conditions
conditions_of (first ∷ others) = condition first (conditions_of others)

-- one level of a test, where the tests in it are trees already
abbrev pub condition_step : Test-F Condition Conditions → Condition
condition_step (Test-F.Is name value) = is_same name value
condition_step (Test-F.Below name limit) = is_below name limit
condition_step (Test-F.Above name limit) = is_above name limit
condition_step (Test-F.Not test) = negated test.value
condition_step (Test-F.All tests) = all_of tests
condition_step (Test-F.Any tests) = any_of tests

-- one level of a list of tests
abbrev pub conditions_step : Tests-F Condition Conditions → Conditions
conditions_step tests = conditions_of tests.items.items

-- the tree of a test
abbrev pub condition_of : Test → Condition
condition_of = fold-Test Condition Conditions condition_step conditions_step

-- a decider: a test, and how much is ignored where it is false
pub record Decision : Type 0 where
  pub condition : Condition
  pub depth : Depth

-- a link by the names of its ends
pub record Connection : Type 0 where
  pub from : List ℕ
  pub to : List ℕ
  pub decision : Option Decision

-- a decider with the tree of its test
abbrev pub decision_of : Option Decider → Option Decision
decision_of None = None
decision_of (Some decider) = Some (record { condition = condition_of decider.test; depth = decider.depth })

-- a link with the tree of its decider's test
abbrev pub connection_of : Link → Connection
connection_of link = record { from = link.from; to = link.to; decision = decision_of link.decider }

-- ---- the nested tree as two lists: its atoms and its flows in tree order

-- an atom is a task or a retry controller
pub data Part : Type 0 where
  a_task : Task → Part
  a_retry : Retry → Part

-- an atom and its path from the root
pub record Atom : Type 0 where
  pub path : List Turn
  pub part : Part

-- what stands at one place of a flow: a task by its number among the atoms, or a flow by its number
-- among the flows
pub data Standing : Type 0 where
  stands_task : ℕ → Standing
  stands_flow : ℕ → Standing

-- an item of a flow
pub record Item : Type 0 where
  pub name : List ℕ
  pub standing : Standing

-- a flow: its number, the number of its retry controller among the atoms, and what it is
pub record FlowPlace : Type 0 where
  pub number : ℕ
  pub name : List ℕ
  pub kind : FlowKind
  pub retry : Option ℕ
  pub control : Option Retry
  pub items : List Item
  pub links : List Connection

-- how many flows stand in a tree
abbrev mutual
  pub flow_count : Tree → ℕ
  flow_count (task t) = 0
  flow_count (flow head items) = 1 + flows_among_count items

  pub flows_among_count : Trees → ℕ
  flows_among_count no_trees = 0
  flows_among_count (tree first others) = flow_count first + flows_among_count others

-- a retry controller is one atom
abbrev pub retry_count : Option Retry → ℕ
retry_count None = 0
retry_count (Some r) = 1

-- how many atoms
abbrev mutual
  pub atom_count : Tree → ℕ
  atom_count (task t) = 1
  atom_count (flow head items) = retry_count head.retry + atoms_among_count items

  pub atoms_among_count : Trees → ℕ
  atoms_among_count no_trees = 0
  atoms_among_count (tree first others) = atom_count first + atoms_among_count others

-- an atom of an item, seen from the flow around it
abbrev pub enter : ℕ → ℕ → Atom → Atom
enter g i atom = record { path = record { flow = g; item = Some i } ∷ atom.path; part = atom.part }

-- the retry controller of flow g, where it has one
abbrev pub retry_atoms : ℕ → Option Retry → List Atom
retry_atoms g None = []
retry_atoms g (Some r) = record { path = record { flow = g; item = None } ∷ []; part = a_retry r } ∷ []

-- the atoms of a tree in tree order: a flow's retry controller, then its items as they stand, a nested
-- flow in its place; the flows in it are numbered from g on
abbrev mutual
  pub atoms_of : ℕ → Tree → List Atom
  atoms_of g (task t) = record { path = []; part = a_task t } ∷ []
  atoms_of g (flow head items) = retry_atoms g head.retry ++ atoms_among g 0 (suc g) items

  -- those of the items of flow g from item i on, in which flows are numbered from n on
  pub atoms_among : ℕ → ℕ → ℕ → Trees → List Atom
  atoms_among g i n no_trees = []
  atoms_among g i n (tree first others) =
      map (enter g i) (atoms_of n first) ++ atoms_among g (suc i) (n + flow_count first) others

-- the number of the retry controller of a flow whose atoms are numbered from a on
abbrev pub retry_number : ℕ → Option Retry → Option ℕ
retry_number a None = None
retry_number a (Some r) = Some a

-- an item: a task has the atom's number a, a flow the number n
abbrev pub item_of : ℕ → ℕ → Tree → Item
item_of n a (task t) = record { name = t.name; standing = stands_task a }
item_of n a (flow head items) = record { name = head.name; standing = stands_flow n }

-- items, in which flows are numbered from n on and atoms from a on
abbrev pub items_of : ℕ → ℕ → Trees → List Item
items_of n a no_trees = []
items_of n a (tree first others) = item_of n a first ∷ items_of (n + flow_count first) (a + atom_count first) others

-- flow g, whose atoms are numbered from a on
abbrev pub flow_place : ℕ → ℕ → Head → Trees → FlowPlace
flow_place g a head items = record {
  number = g;
  name = head.name;
  kind = head.kind;
  retry = retry_number a head.retry;
  control = head.retry;
  items = items_of (suc g) (a + retry_count head.retry) items;
  links = map connection_of head.links;
}

-- the flows of a tree in the same walk, a flow before those nested in it
abbrev mutual
  pub flows_of : ℕ → ℕ → Tree → List FlowPlace
  flows_of g a (task t) = []
  flows_of g a (flow head items) = flow_place g a head items ∷ flows_among (suc g) (a + retry_count head.retry) items

  pub flows_among : ℕ → ℕ → Trees → List FlowPlace
  flows_among n a no_trees = []
  flows_among n a (tree first others) =
      flows_of n a first ++ flows_among (n + flow_count first) (a + atom_count first) others

-- the numbers of the flows with the innermost first: those nested in a flow, item by item, before it
abbrev mutual
  pub innermost_first : ℕ → Tree → List ℕ
  innermost_first g (task t) = []
  innermost_first g (flow head items) = innermost_among (suc g) items ++ g ∷ []

  pub innermost_among : ℕ → Trees → List ℕ
  innermost_among n no_trees = []
  innermost_among n (tree first others) = innermost_first n first ++ innermost_among (n + flow_count first) others

-- an atom's name
abbrev pub name_of : Part → List ℕ
name_of (a_task t) = t.name
name_of (a_retry r) = r.name

-- its arguments
abbrev pub arguments_of : Part → List Arg
arguments_of (a_task t) = t.args
arguments_of (a_retry r) = r.args

-- the symbols that have a constant value for it
abbrev pub injected_in : Part → List Bind
injected_in (a_task t) = t.inject
injected_in (a_retry r) = r.inject

-- the symbols that its result gives
abbrev pub provided_by : Part → Provides
provided_by (a_task t) = t.provides
provided_by (a_retry r) = r.provides

-- its priority; a retry controller's is 0
abbrev pub priority_of : Part → ℤ
priority_of (a_task t) = t.priority
priority_of (a_retry r) = pos 0

-- the path of an atom
abbrev pub atom_path : Atom → List Turn
atom_path atom = atom.path

-- a path that begins with the turn into flow g, to item i
abbrev pub enter_path : ℕ → ℕ → List Turn → List Turn
enter_path g i path = record { flow = g; item = Some i } ∷ path

-- the paths to the flows of a tree, in tree order; the flows in it are numbered from g on
abbrev mutual
  pub flow_paths : ℕ → Tree → List (List Turn)
  flow_paths g (task t) = []
  flow_paths g (flow head items) = [] ∷ flow_paths_among g 0 (suc g) items

  -- those in the items of flow g from item i on, in which flows are numbered from n on
  pub flow_paths_among : ℕ → ℕ → ℕ → Trees → List (List Turn)
  flow_paths_among g i n no_trees = []
  flow_paths_among g i n (tree first others) =
      map (enter_path g i) (flow_paths n first) ++ flow_paths_among g (suc i) (n + flow_count first) others

-- the flows of a tree in tree order, each with what stands in it
abbrev mutual
  pub flow_trees : Tree → List Tree
  flow_trees (task t) = []
  flow_trees (flow head items) = flow head items ∷ flow_trees_among items

  pub flow_trees_among : Trees → List Tree
  flow_trees_among no_trees = []
  flow_trees_among (tree first others) = flow_trees first ++ flow_trees_among others

-- it is a task
abbrev pub is_task_part : Part → Bool
is_task_part (a_task t) = true
is_task_part (a_retry r) = false

-- it is a retry controller
abbrev pub is_retry_part : Part → Bool
is_retry_part (a_task t) = false
is_retry_part (a_retry r) = true

-- what an atom is
abbrev pub part_of : Atom → Part
part_of atom = atom.part

-- what an atom is called
abbrev pub name_of_atom : Atom → List ℕ
name_of_atom atom = name_of atom.part

-- it is a retry controller
abbrev pub is_retry_atom : Atom → Bool
is_retry_atom atom = is_retry_part atom.part
