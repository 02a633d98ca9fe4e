-- The nested tree of a flow, and what stands in it.
use Rattle.std.specs.Prelude.{ℕ, ◌+◌, max, List, [], ◌∷◌, Option, ◌++◌, Bool, None, Some, is_some, if◌then◌else◌, ◌==◌, true, false, not, map, filter}
use Rattle.tf_flow.specs.declared.atoms.Task.{Task}
use Rattle.tf_flow.specs.declared.atoms.Retry.{Retry}
use Rattle.tf_flow.specs.declared.deciders.Link.{Link}
use Rattle.tf_flow.specs.declared.nested.FlowKind.{FlowKind}
use Rattle.tf_flow.specs.declared.nested.Flow.{Flow}
use Rattle.tf_flow.specs.declared.nested.Item.{Item}
use Rattle.tf_flow.specs.declared.nested.Item.TheOpen.{Item-F, Flow-F, Items-F}
use Rattle.tf_flow.specs.declared.nested.Item.TheFolds.{fold-Flow, fold-Item}
use Rattle.std.specs.Option.{option_or}
use Rattle.std.specs.List.{list_any}
use Rattle.std.specs.Cmp.Lexicographic.{pointwise}

-- ---- the nested tree of a flow

-- what a flow has beside its items
pub record Head : Type 0 where
  pub name : List ℕ
  pub kind : FlowKind
  pub retry : Option Retry
  pub links : List Link

-- a task, or a flow with a tree for each of its items
mutual
  pub data Tree : Type 0 where
    task : Task → Tree
    flow : Head → Trees → Tree

  pub data Trees : Type 0 where
    no_trees : Trees
    tree : Tree → Trees → Trees

-- the trees of a list, one after another
abbrev pub trees_of : List Tree → Trees
trees_of [] = no_trees
trees_of (first ∷ others) = tree first (trees_of others)

-- one level of an item, of a flow and of items, where what stands below is a tree already
abbrev pub item_step : Item-F Tree Tree Trees → Tree
item_step (Item-F.Task t) = task t
item_step (Item-F.Flow f) = f

abbrev pub flow_step : Flow-F Tree Tree Trees → Tree
flow_step f = flow record { name = f.name; kind = f.kind; retry = f.retry; links = f.links } f.items

abbrev pub items_step : Items-F Tree Tree Trees → Trees
items_step s = trees_of s.items.items

-- the tree of a flow, and that of an item
abbrev pub tree_of : Flow → Tree
tree_of = fold-Flow Tree Tree Trees item_step flow_step items_step

abbrev pub item_tree : Item → Tree
item_tree = fold-Item Tree Tree Trees item_step flow_step items_step

-- how many flows stand in one another: a flow counts itself, and a task counts none
abbrev mutual
  pub nesting : Tree → ℕ
  nesting (task t) = 0
  nesting (flow head items) = 1 + deepest items

  pub deepest : Trees → ℕ
  deepest no_trees = 0
  deepest (tree first others) = max (nesting first) (deepest others)

-- ---- lists that are searched in order

-- names are the same where their bytes are
abbrev pub same_name : List ℕ → List ℕ → Bool
same_name = pointwise ◌==◌

abbrev pub is_among : List (List ℕ) → List ℕ → Bool
is_among names name = list_any (same_name name) names

-- what the first element gives that gives something
abbrev pub first_some : {X Y : Type 0} → (X → Option Y) → List X → Option Y
first_some give [] = None
first_some give (x ∷ xs) = option_or (give x) (first_some give xs)

-- the first element that stands earlier already: among those seen, or before it in the list
abbrev pub first_again_after : {X : Type 0} → (X → X → Bool) → List X → List X → Option X
first_again_after same seen [] = None
first_again_after same seen (x ∷ xs) =
    if list_any (same x) seen then Some x else first_again_after same (seen ++ x ∷ []) xs

abbrev pub first_again : {X : Type 0} → (X → X → Bool) → List X → Option X
first_again same xs = first_again_after same [] xs

-- whether a name stands twice
abbrev pub has_twice : List (List ℕ) → Bool
has_twice names = is_some (first_again same_name names)

-- ---- what stands in a flow, in tree order

-- an item of a flow: its name, and whether it is a task
pub record Member : Type 0 where
  pub name : List ℕ
  pub is_task : Bool

-- a flow without what stands below it: its own name, kind and links, and its items as members
pub record Level : Type 0 where
  pub name : List ℕ
  pub kind : FlowKind
  pub links : List Link
  pub members : List Member

-- what stands at one place of a tree
pub data Place : Type 0 where
  at_flow : Level → Place
  at_retry : Retry → Place
  at_task : Task → Place

abbrev pub member_of : Tree → Member
member_of (task t) = record { name = t.name; is_task = true }
member_of (flow head items) = record { name = head.name; is_task = false }

abbrev pub members_of : Trees → List Member
members_of no_trees = []
members_of (tree first others) = member_of first ∷ members_of others

abbrev pub level_of : Head → Trees → Level
level_of head items = record { name = head.name; kind = head.kind; links = head.links; members = members_of items }

abbrev pub retry_places : Option Retry → List Place
retry_places None = []
retry_places (Some r) = at_retry r ∷ []

-- tree order: a flow, then its retry, then its items as they stand, a nested flow in its place
abbrev mutual
  pub places : Tree → List Place
  places (task t) = at_task t ∷ []
  places (flow head items) = at_flow (level_of head items) ∷ (retry_places head.retry ++ places_among items)

  pub places_among : Trees → List Place
  places_among no_trees = []
  places_among (tree first others) = places first ++ places_among others

abbrev pub tree_order : Flow → List Place
tree_order root = places (tree_of root)

abbrev pub name_at : Place → List ℕ
name_at (at_flow level) = level.name
name_at (at_retry r) = r.name
name_at (at_task t) = t.name

abbrev pub is_flow : Place → Bool
is_flow (at_flow level) = true
is_flow (at_retry r) = false
is_flow (at_task t) = false

-- an atom is a task or a retry controller
abbrev pub is_atom : Place → Bool
is_atom place = not (is_flow place)

abbrev pub is_retry_place : Place → Bool
is_retry_place (at_flow level) = false
is_retry_place (at_retry r) = true
is_retry_place (at_task t) = false

-- the names of the atoms, whether each is a retry controller, and the names of the flows, all in tree
-- order: the number of an atom or a flow is its place in these lists
abbrev pub atom_names : List Place → List (List ℕ)
atom_names order = map name_at (filter is_atom order)

abbrev pub retry_marks : List Place → List Bool
retry_marks order = map is_retry_place (filter is_atom order)

abbrev pub flow_names : List Place → List (List ℕ)
flow_names order = map name_at (filter is_flow order)
