-- What the code's records of a plan's atoms and flows show.
use Rattle.std.specs.Prelude.{ℕ, zero, suc, List, [], ◌∷◌, ◌++◌, map}
use Rattle.tf_flow.specs.Outline.{connection_of}
use Rattle.tf_flow.specs.declared.paths.Turn.{Turn}
use Rattle.tf_flow.specs.Outline as model
use Rattle.tf_flow.specs.declared.listing.AtomPlace.{AtomPlace}
use Rattle.tf_flow.specs.declared.listing.ItemPlace.{ItemPlace}
use Rattle.tf_flow.specs.declared.listing.Level.{Level}
use Rattle.tf_flow.specs.Paths.{shown_part}
use Rattle.tf_flow.specs.declared.listing.Standing.{Standing}
use Rattle.tf_flow.specs.declared.listing.Standing.TheVariants as standing

-- an atom with its path
abbrev pub shown_atom : AtomPlace → model.Atom
shown_atom atom = record { path = atom.path; part = shown_part atom.part }

abbrev pub shown_atoms : List AtomPlace → List model.Atom
shown_atoms = map shown_atom

-- what an item is
abbrev pub shown_standing : Standing → model.Standing
shown_standing (standing.Task number) = model.stands_task number
shown_standing (standing.Flow number) = model.stands_flow number

abbrev pub shown_item : ItemPlace → model.Item
shown_item item = record { name = item.name; standing = shown_standing item.standing }

-- a flow with its items
abbrev pub shown_level : Level → model.FlowPlace
shown_level level = record {
  number = level.number;
  name = level.flow.now.name;
  kind = level.flow.now.kind;
  retry = level.retry;
  control = level.flow.now.retry;
  items = map shown_item level.items.items;
  links = map connection_of level.flow.now.links;
}

abbrev pub shown_levels : List Level → List model.FlowPlace
shown_levels = map shown_level

-- the number of a flow
abbrev pub level_number : Level → ℕ
level_number level = level.number

-- an atom, seen from the end of a path that leads on to it
abbrev pub under : List Turn → model.Atom → model.Atom
under path atom = record { path = path ++ atom.path; part = atom.part }

-- a flow with other items
abbrev pub with_items : List model.Item → model.FlowPlace → model.FlowPlace
with_items items place = record {
  number = place.number;
  name = place.name;
  kind = place.kind;
  retry = place.retry;
  control = place.control;
  items = items;
  links = place.links;
}

-- flows, of which the one at this place has other items
abbrev pub with_items_at : List model.Item → ℕ → List model.FlowPlace → List model.FlowPlace
with_items_at items at [] = []
with_items_at items zero (place ∷ places) = with_items items place ∷ places
with_items_at items (suc at) (place ∷ places) = place ∷ with_items_at items at places
