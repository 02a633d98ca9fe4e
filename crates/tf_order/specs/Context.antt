-- What is found of a flow's links: the symbols that were looked at, and the links and ambiguities that they give.
use Rattle.std.specs.Prelude.{◌≡◌, ℕ, List, [], ◌&&◌, ◌||◌, Some, length, nat_eq, nat_lt, filter, map, flat_map, if◌then◌else◌}
use Rattle.std.specs.List.{list_any}
use Rattle.tf_flow.specs.declared.atoms.Arg.{Arg}
use Rattle.tf_numbers.specs.Numbers.{which_below}
use Rattle.tf_links.specs.Graphs.{reached}
use Rattle.tf_flow.specs.Outline.{Part, Atom, FlowPlace}
use Rattle.tf_flow.specs.declared.paths.Turn.{Turn}
use Rattle.tf_model.specs.Before.{Flow, takes_item, passes_item, provides_at, is_inferred_by, is_unserved, is_taken, is_inside, needs_of_atom, arg_symbol, explicit}
use Rattle.tf_model.specs.Plan.{is_ambiguous}
use Rattle.tf_order.specs.declared.context.Context.{Context}
use Rattle.tf_links.specs.Bits.{has}
use Rattle.tf_order.specs.Index.{told}
use Rattle.tf_links.specs.Links.{leads, LinksValue, AreReached}
use Rattle.tf_flow.specs.Listing.{shown_atoms, shown_level}

-- the atoms that are looked at
abbrev pub atoms_seen : Context → List Atom
atoms_seen context = shown_atoms context.atoms.now

-- the flow that is looked at
abbrev pub place_seen : Context → FlowPlace
place_seen context = shown_level context.level.now

-- how many items it has
abbrev pub count_seen : Context → ℕ
count_seen context = length context.level.now.items.items

-- who provides a symbol is told
abbrev pub HasProviders : Context → Type 0
HasProviders context =
    (symbol : List ℕ) → told context.providers.now symbol
    ≡ which_below (length context.atoms.now) (provides_at (atoms_seen context) symbol)

-- which item reaches which by explicit links is told
abbrev pub HasReach : Context → List (List ℕ) → Type 0
HasReach context reach =
    AreReached (count_seen context) (reached (count_seen context) (explicit (place_seen context))) reach

-- there are so many more links and ambiguities as the symbols give that were looked at for each item: a link
-- where one other item provides the symbol, a ambiguity where several do
pub record LinksBy (context : Context) (seen : ℕ → List (List ℕ)) (old : LinksValue) (ambiguities_old : List ℕ)
    (new : LinksValue) (ambiguities_new : List ℕ) : Type 0 where
  pub links : (u v : ℕ) → leads new.rows u v
      ≡ (leads old.rows u v ||
      (nat_lt v (count_seen context) && list_any (is_inferred_by (atoms_seen context) (place_seen context) u v)
      (seen v)))
  pub ambiguities : (v : ℕ) → has ambiguities_new v
      ≡ (has ambiguities_old v ||
      (nat_lt v (count_seen context) && list_any (is_ambiguous (atoms_seen context) (place_seen context) v) (seen v)))

-- these symbols for one item, and none for others
abbrev pub for_item : ℕ → List (List ℕ) → ℕ → List (List ℕ)
for_item v symbols w = if nat_eq v w then symbols else []

-- what an atom takes by these arguments and no atom before it in the item provides
abbrev pub needed_by : Context → List Flow → ℕ → ℕ → Part → List Arg → List (List ℕ)
needed_by context inner v a part args =
    filter (is_unserved (atoms_seen context) inner (place_seen context).number v a)
    (map arg_symbol (filter (is_taken part) args))

-- what an atom needs of the items around it, where it stands in item v
abbrev pub needed_at : Context → List Flow → ℕ → ℕ → List (List ℕ)
needed_at context inner a v = needs_of_atom (atoms_seen context) inner (place_seen context).number v a

-- the same for the item that a turn takes
abbrev pub taken_at : Context → List Flow → ℕ → Turn → ℕ → List (List ℕ)
taken_at context inner a turn v =
    if takes_item (place_seen context).number (Some v) turn then needed_at context inner a v else []

-- the same for each item that a path leads through
abbrev pub passed_at : Context → List Flow → ℕ → List Turn → ℕ → List (List ℕ)
passed_at context inner a path v =
    if passes_item (place_seen context).number (Some v) path then needed_at context inner a v else []

-- what the atoms below a number need of the items around them, where they stand in item v
abbrev pub needed_below : Context → List Flow → ℕ → ℕ → List (List ℕ)
needed_below context inner n v =
    flat_map (needs_of_atom (atoms_seen context) inner (place_seen context).number v)
    (which_below n (is_inside (atoms_seen context) (place_seen context).number v))
