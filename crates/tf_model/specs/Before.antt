-- Which items of a flow are linked, and which atom is before which.
use Rattle.std.specs.Prelude.{ℕ, List, [], ◌∷◌, Bool, true, false, ◌&&◌, Option, Some, None, find, slice_get, if◌then◌else◌, nat_eq, option_map, ◌++◌, not, ◌||◌, length, nat_lt, map, flat_map, filter}
use Rattle.std.specs.Option.{option_map_or, unwrap_or, option_to_list}
use Rattle.std.specs.List.{list_any}
use Rattle.tf_numbers.specs.Numbers.{Pair, has_pair, any_below, which_below, pairs_below}
use Rattle.tf_flow.specs.Outline.{Part, Atom, FlowPlace, part_of, atom_path, Connection, Standing, stands_task, stands_flow, Item, arguments_of, injected_in, provided_by}
use Rattle.tf_flow.specs.declared.nested.FlowKind.TheVariants as kind
use Rattle.tf_flow.specs.declared.paths.Turn.{Turn}
use Rattle.tf_flow.specs.declared.atoms.Arg.{Arg}
use Rattle.tf_flow.specs.declared.nested.FlowKind.{FlowKind}
use Rattle.tf_flow.specs.declared.atoms.Retry.{Retry}
use Rattle.tf_flow.specs.Limits.{provided}
use Rattle.tf_flow.specs.Tree.{same_name, is_among}
use Rattle.tf_flow.specs.Rules.{bind_symbols, is_graph}
use Rattle.tf_links.specs.Graphs.{reached, standing_items}

-- ---- which atom is before which

-- a flow with what its kind and its links mean: which item is linked to which; which item comes before
-- which; and the numbers of its atoms in standing order
pub record Flow : Type 0 where
  pub place : FlowPlace
  pub linked : List Pair
  pub order : List Pair
  pub standing : List ℕ

-- the flow has this number
abbrev pub has_flow_number : ℕ → Flow → Bool
has_flow_number g f = nat_eq f.place.number g

-- the flow of a number, if there is one
abbrev pub find_flow : List Flow → ℕ → Option Flow
find_flow flows g = find (has_flow_number g) flows

-- a flow with nothing in it
abbrev pub no_flow : Flow
no_flow = record {
  place = record { number = 0; name = []; kind = kind.Unordered; retry = None; control = None; items = []; links = [] };
  linked = [];
  order = [];
  standing = [];
}

-- the flow of a number; of a number that no flow has, one with nothing in it
abbrev pub flow_at : List Flow → ℕ → Flow
flow_at flows g = unwrap_or (find_flow flows g) no_flow

-- item u of flow g comes before item v of it
abbrev pub item_before : List Flow → ℕ → ℕ → ℕ → Bool
item_before flows g u v = has_pair (flow_at flows g).order u v

-- two paths into one flow: its retry controller is before its items; of two items the order of the flow
-- decides; and in one item it is decided below
abbrev pub turn_before : List Flow → ℕ → Option ℕ → Option ℕ → Bool → Bool
turn_before flows g None None below = false
turn_before flows g None (Some v) below = true
turn_before flows g (Some u) None below = false
turn_before flows g (Some u) (Some v) below = if nat_eq u v then below else item_before flows g u v

-- an atom with the first path is before one with the second: it is decided in the lowest flow that holds both
abbrev pub path_before : List Flow → List Turn → List Turn → Bool
path_before flows [] other = false
path_before flows (x ∷ xs) [] = false
path_before flows (x ∷ xs) (y ∷ ys) =
    nat_eq x.flow y.flow && turn_before flows x.flow x.item y.item (path_before flows xs ys)

-- what stands at a number: a task, a retry controller, or nothing
abbrev pub part_at : List Atom → ℕ → Option Part
part_at atoms a = option_map part_of (slice_get atoms a)

-- the path of the atom of a number; a number that no atom has, has none
abbrev pub path_at : List Atom → ℕ → List Turn
path_at atoms a = option_map_or atom_path (slice_get atoms a) []

-- the path leads into flow g
abbrev pub leads_into : ℕ → Turn → Bool
leads_into g turn = nat_eq turn.flow g

-- the path leads into flow g, at any turn
abbrev pub passes_flow : ℕ → List Turn → Bool
passes_flow g path = list_any (leads_into g) path

-- the two places are the same: that of one item, or of the retry controller
abbrev pub same_place : Option ℕ → Option ℕ → Bool
same_place None None = true
same_place None (Some v) = false
same_place (Some u) None = false
same_place (Some u) (Some v) = nat_eq u v

-- the turn is into flow g, to this place
abbrev pub takes_item : ℕ → Option ℕ → Turn → Bool
takes_item g item turn = nat_eq turn.flow g && same_place turn.item item

-- the path leads through this item of flow g
abbrev pub passes_item : ℕ → Option ℕ → List Turn → Bool
passes_item g item path = list_any (takes_item g item) path

-- ---- which items of a graph flow are linked, in which order the items of a flow come, and how they stand

-- the symbol of an argument
abbrev pub arg_symbol : Arg → List ℕ
arg_symbol arg = arg.symbol

-- the atom has an inject for the argument's symbol
abbrev pub is_injected : Part → Arg → Bool
is_injected part arg = is_among (bind_symbols (injected_in part)) arg.symbol

-- the argument's symbol is taken from others: the atom has no inject for it
abbrev pub is_taken : Part → Arg → Bool
is_taken part arg = not (is_injected part arg)

-- the symbols that an atom takes from others, in the order of its arguments
abbrev pub taken_symbols : Part → List (List ℕ)
taken_symbols part = map arg_symbol (filter (is_taken part) (arguments_of part))

-- the symbols that an atom lists as those that it provides
abbrev pub listed : Part → List (List ℕ)
listed part = provided (provided_by part)

-- the atom of a number provides the symbol
abbrev pub provides_at : List Atom → List ℕ → ℕ → Bool
provides_at atoms symbol a = is_among (option_map_or listed (part_at atoms a) []) symbol

-- the atom of a number stands in this item of flow g
abbrev pub is_inside : List Atom → ℕ → ℕ → ℕ → Bool
is_inside atoms g v a = passes_item g (Some v) (path_at atoms a)

-- b, which stands in the item too, provides the symbol and is before a
abbrev pub serves_inside : List Atom → List Flow → ℕ → ℕ → List ℕ → ℕ → ℕ → Bool
serves_inside atoms inner g v symbol a b =
    is_inside atoms g v b && (provides_at atoms symbol b && path_before inner (path_at atoms b) (path_at atoms a))

-- no atom before a in the item provides the symbol
abbrev pub is_unserved : List Atom → List Flow → ℕ → ℕ → ℕ → List ℕ → Bool
is_unserved atoms inner g v a symbol = not (any_below (length atoms) (serves_inside atoms inner g v symbol a))

-- what atom a takes and no atom before it in the item provides
abbrev pub needs_of_atom : List Atom → List Flow → ℕ → ℕ → ℕ → List (List ℕ)
needs_of_atom atoms inner g v a =
    filter (is_unserved atoms inner g v a) (option_map_or taken_symbols (part_at atoms a) [])

-- the symbols that an item needs: those that its atoms take and that no atom before them in the item provides
abbrev pub needs : List Atom → List Flow → ℕ → ℕ → List (List ℕ)
needs atoms inner g v = flat_map (needs_of_atom atoms inner g v) (which_below (length atoms) (is_inside atoms g v))

-- a stands in item u and provides the symbol
abbrev pub gives_inside : List Atom → ℕ → ℕ → List ℕ → ℕ → Bool
gives_inside atoms g u symbol a = is_inside atoms g u a && provides_at atoms symbol a

-- an item provides what one of its atoms provides
abbrev pub item_provides : List Atom → ℕ → List ℕ → ℕ → Bool
item_provides atoms g symbol u = any_below (length atoms) (gives_inside atoms g u symbol)

-- the flow's retry controller, where it has one, provides the symbol
abbrev pub retry_provides : Option Retry → List ℕ → Bool
retry_provides None symbol = false
retry_provides (Some r) symbol = is_among (provided r.provides) symbol

-- a link names the two items
abbrev pub joins : List ℕ → List ℕ → Connection → Bool
joins from to link = same_name link.from from && same_name link.to to

-- an item's name
abbrev pub name_of_item : Item → List ℕ
name_of_item item = item.name

-- the name of item u
abbrev pub item_name : FlowPlace → ℕ → List ℕ
item_name place u = option_map_or name_of_item (slice_get place.items u) []

-- a link that is written joins u to v
abbrev pub is_explicit : FlowPlace → ℕ → ℕ → Bool
is_explicit place u v = list_any (joins (item_name place u) (item_name place v)) place.links

-- the explicit links of a flow
abbrev pub explicit : FlowPlace → List Pair
explicit place = pairs_below (length place.items) (is_explicit place)

-- an item that reaches v by the explicit links provides the symbol
abbrev pub reaches_with : List Atom → FlowPlace → List ℕ → ℕ → ℕ → Bool
reaches_with atoms place symbol v w =
    has_pair (reached (length place.items) (explicit place)) w v && item_provides atoms place.number symbol w

-- no link to v is made for the symbol: the flow's retry controller provides it, or an item that
-- reaches v by explicit links does
abbrev pub is_served : List Atom → FlowPlace → ℕ → List ℕ → Bool
is_served atoms place v symbol =
    retry_provides place.control symbol || any_below (length place.items) (reaches_with atoms place symbol v)

-- u is another item than v and provides the symbol
abbrev pub other_provides : List Atom → FlowPlace → ℕ → List ℕ → ℕ → Bool
other_provides atoms place v symbol u = not (nat_eq u v) && item_provides atoms place.number symbol u

-- the other items that provide a symbol, where it asks for a link to v
abbrev pub givers : List Atom → FlowPlace → ℕ → List ℕ → List ℕ
givers atoms place v symbol =
    if is_served atoms place v symbol then []
    else which_below (length place.items) (other_provides atoms place v symbol)

-- the list has this number alone
abbrev pub is_only : ℕ → List ℕ → Bool
is_only u [] = false
is_only u (x ∷ []) = nat_eq u x
is_only u (x ∷ y ∷ others) = false

-- the symbol gives a link from u to v
abbrev pub is_inferred_by : List Atom → FlowPlace → ℕ → ℕ → List ℕ → Bool
is_inferred_by atoms place u v symbol = is_only u (givers atoms place v symbol)

-- a link from u to v is inferred from a symbol that v needs
abbrev pub is_inferred : List Atom → List Flow → FlowPlace → ℕ → ℕ → Bool
is_inferred atoms inner place u v = list_any (is_inferred_by atoms place u v) (needs atoms inner place.number v)

-- u is linked to v: a link is written, or one is inferred
abbrev pub is_linked : List Atom → List Flow → FlowPlace → ℕ → ℕ → Bool
is_linked atoms inner place u v = is_explicit place u v || is_inferred atoms inner place u v

-- the linked pairs of a flow's items; only a graph flow has any
abbrev pub linked_pairs : List Atom → List Flow → FlowPlace → List Pair
linked_pairs atoms inner place =
    if is_graph place.kind then pairs_below (length place.items) (is_linked atoms inner place) else []

-- which item comes before which: the one that stands earlier in a linear flow, none in an unordered
-- one, and the one that reaches the other by links in a graph flow
abbrev pub item_order : FlowKind → ℕ → List Pair → List Pair
item_order kind.Linear n linked = pairs_below n nat_lt
item_order kind.Unordered n linked = []
item_order kind.Graph n linked = reached n linked

-- the atoms of an item in standing order: a task, or those of a nested flow
abbrev pub standing_at : List Flow → Standing → List ℕ
standing_at inner (stands_task a) = a ∷ []
standing_at inner (stands_flow g) = (flow_at inner g).standing

-- the same of an item
abbrev pub item_standing : List Flow → Item → List ℕ
item_standing inner item = standing_at inner item.standing

-- the atoms of item u in standing order
abbrev pub standing_of_item : List Flow → FlowPlace → ℕ → List ℕ
standing_of_item inner place u = option_map_or (item_standing inner) (slice_get place.items u) []

-- a flow's atoms in standing order: tree order, in which its items are taken in their standing order
abbrev pub standing_atoms : List Flow → FlowPlace → List Pair → List ℕ
standing_atoms inner place linked =
    option_to_list place.retry ++ flat_map (standing_of_item inner place) (standing_items (length place.items) linked)

-- a flow with its linked pairs, and with what they mean
abbrev pub arrange_with : List Flow → FlowPlace → List Pair → Flow
arrange_with inner place linked = record {
  place = place;
  linked = linked;
  order = item_order place.kind (length place.items) linked;
  standing = standing_atoms inner place linked;
}

-- a flow with what its links mean, where those nested in it are arranged already
abbrev pub arrange : List Atom → List Flow → FlowPlace → Flow
arrange atoms inner place = arrange_with inner place (linked_pairs atoms inner place)

-- a flow beside those that are arranged already
abbrev pub arranged_with : List Atom → FlowPlace → List Flow → List Flow
arranged_with atoms place inner = arrange atoms inner place ∷ inner

-- all flows of a plan: those that come later in tree order, among which are the nested ones, first
abbrev pub arranged : List Atom → List FlowPlace → List Flow
arranged atoms [] = []
arranged atoms (place ∷ places) = arranged_with atoms place (arranged atoms places)
