-- The plan up to a target: what an item of a graph flow needs, and nothing else.
use Rattle.std.specs.Prelude.{ℕ, suc, List, [], ◌∷◌, Bool, true, false, ◌&&◌, Option, Some, None, filter, length, slice_get, slice_index_or, ◌≡◌, zero, ◌||◌, nat_eq, if◌then◌else◌, ◌<◌, map}
use Rattle.tf_flow.specs.declared.deciders.Link.{Link}
use Rattle.tf_flow.specs.Tree.{same_name, is_among, members_of, Tree, task, flow, Trees, no_trees, tree, Head}
use Rattle.tf_flow.specs.Rules.{member_names, is_graph}
use Rattle.tf_numbers.specs.Numbers.{first_below, has_pair}
use Rattle.tf_flow.specs.Outline.{atom_count}
use Rattle.tf_flow.specs.declared.faults.PlanFault.{PlanFault}
use Rattle.tf_flow.specs.declared.faults.PlanFault.TheVariants as plan_refusal
use Rattle.tf_flow.specs.Plan.{PlanTree, as_written}
use Rattle.tf_model.specs.Plan.{Outline, outline_of_tree, is_before, is_task, root_item_before}
use Rattle.tf_target.specs.declared.faults.TargetFault.{TargetFault}
use Rattle.tf_target.specs.declared.faults.TargetFault.TheVariants as fault
use Rattle.tf_model.specs.Before.{flow_at, part_at, item_name}
use Rattle.tf_model.specs.Readiness.{decider_links}
use Rattle.tf_model.specs.Scope.{members}

-- ---- a flow with some of its items and the links between these

-- the items of a tree; a task has none
abbrev pub items_in : Tree → Trees
items_in (task t) = no_trees
items_in (flow head items) = items

-- the names of items, in order
abbrev pub names_among : Trees → List (List ℕ)
names_among items = member_names (members_of items)

-- the name at a place is this one
abbrev pub is_name_at : List (List ℕ) → List ℕ → ℕ → Bool
is_name_at names name u = same_name name (slice_index_or names u [])

-- the first place at which a name stands
abbrev pub place_of_name : List (List ℕ) → List ℕ → Option ℕ
place_of_name names name = first_below (length names) (is_name_at names name)

-- a tree before others, where it is kept
abbrev pub keep_first : Bool → Tree → Trees → Trees
keep_first true first others = tree first others
keep_first false first others = others

-- the items at whose places the test passes, in order
abbrev pub kept_among : (ℕ → Bool) → Trees → Trees
kept_among test no_trees = no_trees
kept_among test (tree first others) = keep_first (test 0) first (kept_among (λ u. test (suc u)) others)

-- both ends of the link are among the names
abbrev pub joins_kept : List (List ℕ) → Link → Bool
joins_kept names link = is_among names link.from && is_among names link.to

-- what a flow has beside its items, with the links between items of these names alone
abbrev pub kept_head : List (List ℕ) → Head → Head
kept_head names head =
    record { name = head.name; kind = head.kind; retry = head.retry; links = filter (joins_kept names) head.links }

-- a flow with the items at whose places the test passes, and the links between these
abbrev pub kept_tree : (ℕ → Bool) → Tree → Tree
kept_tree test (task t) = task t
kept_tree test (flow head items) = flow (kept_head (names_among (kept_among test items)) head) (kept_among test items)

-- an element before others, where it is elements_kept
abbrev pub pick_first : {X : Type 0} → Bool → X → List X → List X
pick_first true x xs = x ∷ xs
pick_first false x xs = xs

-- the elements at whose places the test passes, in order
abbrev pub elements_kept : {X : Type 0} → (ℕ → Bool) → List X → List X
elements_kept test [] = []
elements_kept test (x ∷ xs) = pick_first (test 0) x (elements_kept (λ u. test (suc u)) xs)

-- the mark, where there is one
abbrev pub mark_or_none : Option Bool → Bool
mark_or_none None = false
mark_or_none (Some mark) = mark

-- the item of a number is marked
abbrev pub is_marked : List Bool → ℕ → Bool
is_marked marks u = mark_or_none (slice_get marks u)

-- ---- the plan up to a target: what an item of a graph flow needs, and nothing else

-- the outline of a plan
abbrev pub outline_in : PlanTree → Outline
outline_in plan = outline_of_tree plan.root plan.store plan.defer

-- it is a graph flow
abbrev pub is_graph_flow : Tree → Bool
is_graph_flow (task t) = false
is_graph_flow (flow head items) = is_graph head.kind

-- the number of the root's item of a name, among the root's items
abbrev pub item_named : PlanTree → List ℕ → Option ℕ
item_named plan name = place_of_name (names_among (items_in plan.root)) name

-- item u of the root is kept for one of its items: it is that item, or it reaches it by links
abbrev pub is_kept : PlanTree → ℕ → ℕ → Bool
is_kept plan item u = nat_eq u item || root_item_before (outline_in plan) item u

-- the root with the items that are kept for one of them, and the links between these
abbrev pub target_tree : PlanTree → ℕ → Tree
target_tree plan item = kept_tree (is_kept plan item) plan.root

-- refused where so many atoms are none
abbrev pub refuse_none : ℕ → Option TargetFault
refuse_none zero = Some fault.Empty
refuse_none (suc n) = None

-- refused where no item has the name, or where what is kept holds no atom
abbrev pub refuse_item : PlanTree → List ℕ → Option ℕ → Option TargetFault
refuse_item plan name None = Some (fault.UnknownTarget name)
refuse_item plan name (Some item) = refuse_none (atom_count (target_tree plan item))

-- the first refusal of a target
abbrev pub target_refusal : PlanTree → List ℕ → Option TargetFault
target_refusal plan name =
    if is_graph_flow plan.root then refuse_item plan name (item_named plan name) else Some fault.NotAGraph

-- want of memory says nothing of the plan; every other answer is the first refusal
abbrev pub IsTargetAnswer : Option TargetFault → TargetFault → Type 0
IsTargetAnswer refusal fault.Memory = Unit {0}
IsTargetAnswer refusal fault.NotAGraph = refusal ≡ Some fault.NotAGraph
IsTargetAnswer refusal (fault.UnknownTarget name) = refusal ≡ Some (fault.UnknownTarget name)
IsTargetAnswer refusal fault.Empty = refusal ≡ Some fault.Empty

-- the answer where what is kept makes no plan: a part of a plan can only be empty
abbrev pub plan_fault : PlanFault → TargetFault
plan_fault plan_refusal.Memory = fault.Memory
plan_fault (plan_refusal.TooLarge which n) = fault.Empty
plan_fault plan_refusal.Empty = fault.Empty
plan_fault (plan_refusal.Duplicate name) = fault.Empty
plan_fault (plan_refusal.Unknown name) = fault.Empty
plan_fault (plan_refusal.BadLink name) = fault.Empty
plan_fault (plan_refusal.BadAtom name) = fault.Empty

-- what is kept of a plan for the item of a name: the root's name and kind, its retry controller, the kept items
-- in their order and the links between them, the store, and whether reverts are deferred
pub record IsTargetOf (plan : PlanTree) (name : List ℕ) (kept : PlanTree) : Type 0 where
  pub item : ℕ
  pub named : item_named plan name ≡ Some item
  pub root : as_written kept.root ≡ as_written (target_tree plan item)
  pub store : kept.store ≡ plan.store
  pub defer : kept.defer ≡ plan.defer

-- no item of the root that is left out comes before one that is kept
abbrev pub LeavesNoneBefore : PlanTree → List ℕ → Type 0
LeavesNoneBefore plan name =
    (item u v : ℕ) → item_named plan name ≡ Some item → is_kept plan item u ≡ false → is_kept plan item v ≡ true
    → root_item_before (outline_in plan) v u ≡ false

-- ---- what is the same of what is kept as of the whole plan

-- each item of the kept root is an item of the plan's root, of the same name, and each kept atom is the same task
-- or retry controller of the plan; the items are linked as in the plan, by explicit and by inferred links, and an
-- atom is before another exactly where it is in the plan; the members of an atom's scope are its members in the plan,
-- and a task has the links with deciders that it has in the plan
pub record KeepsOrder (plan kept : Outline) : Type 0 where
  pub item : ℕ → ℕ
  pub atom : ℕ → ℕ
  pub names : (u : ℕ) → u < length (flow_at kept.flows 0).place.items
      → item_name (flow_at kept.flows 0).place u ≡ item_name (flow_at plan.flows 0).place (item u)
  pub linked : (u v : ℕ) → u < length (flow_at kept.flows 0).place.items → v < length (flow_at kept.flows 0).place.items
      → has_pair (flow_at kept.flows 0).linked u v ≡ has_pair (flow_at plan.flows 0).linked (item u) (item v)
  pub parts : (a : ℕ) → part_at kept.atoms a ≡ part_at plan.atoms (atom a)
  pub before : (a b : ℕ) → is_before kept a b ≡ is_before plan (atom a) (atom b)
  pub scopes : (a : ℕ) → map atom (members kept a) ≡ members plan (atom a)
  pub deciders : (a : ℕ) → is_task kept a ≡ true → decider_links kept a ≡ decider_links plan (atom a)
