-- What the rules of a run read of a plan, why a plan doesn't compile, and how many entries a run of it records at most.
use Rattle.std.specs.Prelude.{ℕ, List, [], ◌∷◌, Bool, false, Option, Some, None, length, true, nat_lt, nat_eq, map, filter, option_map, if◌then◌else◌, ◌+◌, ◌*◌, max}
use Rattle.std.specs.Option.{option_map_or, option_or}
use Rattle.tf_flow.specs.declared.atoms.Arg.{Arg}
use Rattle.tf_flow.specs.declared.atoms.Bind.{Bind}
use Rattle.tf_flow.specs.declared.atoms.Provides.{Provides}
use Rattle.tf_flow.specs.declared.atoms.Provides.TheVariants as provides
use Rattle.tf_flow.specs.Plan.{PlanValue}
use Rattle.tf_flow.specs.Tree.{Tree, tree_of, first_some, Trees, task, flow, no_trees, tree}
use Rattle.tf_flow.specs.Outline.{is_task_part, is_retry_part, Atom, FlowPlace, atoms_of, flows_of, name_of, arguments_of, injected_in, provided_by, innermost_first}
use Rattle.tf_flow.specs.declared.paths.Turn.{Turn}
use Rattle.tf_model.specs.Before.{Flow, flow_at, part_at, path_before, path_at, passes_flow, arranged, has_flow_number, needs, givers, item_name, item_before}
use Rattle.tf_links.specs.Graphs.{shortest_cycle, reached}
use Rattle.tf_flow.specs.Rules.{is_graph}
use Rattle.tf_numbers.specs.Numbers.{first_below, numbers_below, Pair, has_pair}
use Rattle.tf_flow.specs.declared.atoms.Retry.{Retry}
use Rattle.tf_flow.specs.declared.atoms.RetryKind.{RetryKind}
use Rattle.tf_flow.specs.declared.atoms.RetryKind.TheVariants as retry

-- ---- what the rules of a run read of a plan

-- the atoms and the flows in tree order, the values of the store, and whether reverts are deferred
pub record Outline : Type 0 where
  pub atoms : List Atom
  pub flows : List Flow
  pub store : List Bind
  pub defer : Bool

-- the outline of atoms and flows
abbrev pub outline_with : List Atom → List FlowPlace → List Bind → Bool → Outline
outline_with atoms places store defer =
    record { atoms = atoms; flows = arranged atoms places; store = store; defer = defer }

-- the outline of a tree
abbrev pub outline_of_tree : Tree → List Bind → Bool → Outline
outline_of_tree root store defer = outline_with (atoms_of 0 root) (flows_of 0 0 root) store defer

-- the outline of a plan
abbrev pub outline_of : PlanValue → Outline
outline_of plan = outline_of_tree (tree_of plan.root) plan.store plan.defer

-- how many atoms there are; they are numbered from 0
abbrev pub count : Outline → ℕ
count plan = length plan.atoms

-- the path of atom a from the root
abbrev pub path : Outline → ℕ → List Turn
path plan a = path_at plan.atoms a

-- a is before b
unfoldable pub is_before : Outline → ℕ → ℕ → Bool
is_before plan a b = path_before plan.flows (path plan a) (path plan b)

-- flow g holds a, at any depth; it holds its own retry controller
unfoldable pub holds : Outline → ℕ → ℕ → Bool
holds plan g a = passes_flow g (path plan a)

-- a is a retry controller
abbrev pub is_retry : Outline → ℕ → Bool
is_retry plan a = option_map_or is_retry_part (part_at plan.atoms a) false

-- a is a task
abbrev pub is_task : Outline → ℕ → Bool
is_task plan a = option_map_or is_task_part (part_at plan.atoms a) false

-- the flow into which the last turn of a path leads
abbrev pub last_flow : List Turn → Option ℕ
last_flow [] = None
last_flow (turn ∷ []) = Some turn.flow
last_flow (turn ∷ next ∷ turns) = last_flow (next ∷ turns)

-- the flow in which a stands itself, as its retry controller or as an item
abbrev pub own_flow : Outline → ℕ → Option ℕ
own_flow plan a = last_flow (path plan a)

-- the retry controller of flow g, where it has one
abbrev pub retry_of : Outline → ℕ → Option ℕ
retry_of plan g = (flow_at plan.flows g).place.retry

-- the arguments of a
abbrev pub arguments : Outline → ℕ → List Arg
arguments plan a = option_map_or arguments_of (part_at plan.atoms a) []

-- the injected values of a
abbrev pub injects : Outline → ℕ → List Bind
injects plan a = option_map_or injected_in (part_at plan.atoms a) []

-- what a provides
abbrev pub provides_of : Outline → ℕ → Provides
provides_of plan a = option_map_or provided_by (part_at plan.atoms a) provides.Nothing

-- the name of a
abbrev pub atom_name : Outline → ℕ → List ℕ
atom_name plan a = option_map_or name_of (part_at plan.atoms a) []

-- ---- why a plan doesn't compile: the first ambiguous symbol or cycle of links

-- a symbol that two items of a flow provide where a third needs it, or items that lead back to the first
pub data CompileRefusal : Type 0 where
  ambiguous : (symbol first second : List ℕ) → CompileRefusal
  cycle : (names : List (List ℕ)) → CompileRefusal

-- the first name stands before the second in byte order
abbrev pub name_less : List ℕ → List ℕ → Bool
name_less xs [] = false
name_less [] (y ∷ ys) = true
name_less (x ∷ xs) (y ∷ ys) = if nat_eq x y then name_less xs ys else nat_lt x y

-- the name, or the other where that stands before it
abbrev pub lesser : List ℕ → Option (List ℕ) → List ℕ
lesser name None = name
lesser name (Some other) = if name_less other name then other else name

-- the first of the names in byte order
abbrev pub least : List (List ℕ) → Option (List ℕ)
least [] = None
least (name ∷ names) = Some (lesser name (least names))

-- two or more
abbrev pub are_several : List ℕ → Bool
are_several [] = false
are_several (x ∷ []) = false
are_several (x ∷ y ∷ others) = true

-- two or more other items give the symbol to v
abbrev pub is_ambiguous : List Atom → FlowPlace → ℕ → List ℕ → Bool
is_ambiguous atoms place v symbol = are_several (givers atoms place v symbol)

-- the first two of the items that give a symbol
abbrev pub refuse_givers : FlowPlace → List ℕ → List ℕ → Option CompileRefusal
refuse_givers place symbol [] = None
refuse_givers place symbol (x ∷ []) = None
refuse_givers place symbol (x ∷ y ∷ others) = Some (ambiguous symbol (item_name place x) (item_name place y))

-- the symbol with the first two items that give it
abbrev pub refuse_symbol : List Atom → FlowPlace → ℕ → Option (List ℕ) → Option CompileRefusal
refuse_symbol atoms place v None = None
refuse_symbol atoms place v (Some symbol) = refuse_givers place symbol (givers atoms place v symbol)

-- the first ambiguous symbol of an item, in byte order, and the first two items that provide it
abbrev pub ambiguity_at : List Atom → List Flow → FlowPlace → ℕ → Option CompileRefusal
ambiguity_at atoms flows place v =
    refuse_symbol atoms place v (least (filter (is_ambiguous atoms place v) (needs atoms flows place.number v)))

-- that of the first item that has one
abbrev pub ambiguity : List Atom → List Flow → FlowPlace → Option CompileRefusal
ambiguity atoms flows place = first_some (ambiguity_at atoms flows place) (numbers_below (length place.items))

-- item v leads back to itself
abbrev pub is_back : ℕ → List Pair → ℕ → Bool
is_back n pairs v = has_pair (reached n pairs) v v

-- the names of the shortest cycle through item v
abbrev pub cycle_through : FlowPlace → ℕ → List Pair → ℕ → CompileRefusal
cycle_through place n pairs v = cycle (map (item_name place) (shortest_cycle n pairs v))

-- the shortest cycle through the first item that lies on one
abbrev pub first_cycle : FlowPlace → ℕ → List Pair → Option CompileRefusal
first_cycle place n pairs = option_map (cycle_through place n pairs) (first_below n (is_back n pairs))

-- that of a flow with its linked pairs
abbrev pub cycle_of : Flow → Option CompileRefusal
cycle_of f = first_cycle f.place (length f.place.items) f.linked

-- a graph flow is looked at for an ambiguous symbol, and then for a cycle
abbrev pub refusal_of : List Atom → List Flow → Flow → Option CompileRefusal
refusal_of atoms inner f =
    if is_graph f.place.kind then option_or (ambiguity atoms inner f.place) (cycle_of f) else None

-- the refusal of flow g, which is looked at beside those that come later in tree order, among which are
-- the ones nested in it
abbrev pub refusal_among : List Atom → ℕ → List Flow → Option CompileRefusal
refusal_among atoms g [] = None
refusal_among atoms g (f ∷ inner) =
    if has_flow_number g f then refusal_of atoms inner f else refusal_among atoms g inner

-- the refusal of flow g of a plan
abbrev pub refusal_at : Outline → ℕ → Option CompileRefusal
refusal_at plan g = refusal_among plan.atoms g plan.flows

-- the first refusal: the flows are looked at with the innermost first
abbrev pub tree_refusal : Tree → Outline → Option CompileRefusal
tree_refusal root plan = first_some (refusal_at plan) (innermost_first 0 root)

-- the first refusal of a plan
abbrev pub compile_refusal : PlanValue → Option CompileRefusal
compile_refusal plan = tree_refusal (tree_of plan.root) (outline_of plan)

-- ---- the most entries that one run records

-- how often a retry controller may try its flow: a list has at most 1,024 items
abbrev pub tries_by : RetryKind → ℕ
tries_by retry.AlwaysRevert = 1
tries_by retry.AlwaysRevertAll = 1
tries_by (retry.Times attempts all) = attempts
tries_by (retry.ForEach values all) = max 1 (length values)
tries_by (retry.Parameterized all) = 1024

-- a flow without a retry controller is tried once
abbrev pub tries : Option Retry → ℕ
tries None = 1
tries (Some r) = tries_by r.kind

-- the most entries of a task's life, and of a flow's: in each try its retry controller's life and those of its items
abbrev mutual
  pub cost : Tree → ℕ
  cost (task t) = 6
  cost (flow head items) = tries head.retry * (6 + costs items)

  pub costs : Trees → ℕ
  costs no_trees = 0
  costs (tree first others) = cost first + costs others

-- how many tasks stand in a tree
abbrev mutual
  pub task_count : Tree → ℕ
  task_count (task t) = 1
  task_count (flow head items) = tasks_among_count items

  pub tasks_among_count : Trees → ℕ
  tasks_among_count no_trees = 0
  tasks_among_count (tree first others) = task_count first + tasks_among_count others

-- the bound of a tree: its cost, the number of its tasks, and 5
abbrev pub tree_bound : Tree → ℕ
tree_bound root = cost root + task_count root + 5

-- the most entries of one run
abbrev pub entry_bound : PlanValue → ℕ
entry_bound plan = tree_bound (tree_of plan.root)

-- ---- which items of the root flow come before another of its items

-- item u of the root flow comes before another of its items
abbrev pub root_item_before : Outline → ℕ → ℕ → Bool
root_item_before plan item u = item_before plan.flows 0 u item
