-- What is told of an atom, an item or a flow that may be there: for proofs by cases on whether it is.
use Rattle.std.specs.Prelude.{ℕ, ℤ, pos, List, [], Bool, false, Option, option_map}
use Rattle.std.specs.Option.{option_map_or, option_and_then, unwrap_or}
use Rattle.tf_flow.specs.declared.atoms.Arg.{Arg}
use Rattle.tf_flow.specs.declared.atoms.Bind.{Bind}
use Rattle.tf_flow.specs.declared.atoms.Provides.{Provides}
use Rattle.tf_flow.specs.declared.atoms.Provides.TheVariants as provides
use Rattle.tf_flow.specs.declared.atoms.RetryKind.{RetryKind}
use Rattle.tf_flow.specs.declared.atoms.Task.{Task}
use Rattle.tf_flow.specs.declared.paths.Turn.{Turn}
use Rattle.tf_flow.specs.Outline.{Connection, Part, Atom, Item, is_retry_part, is_task_part, arguments_of, injected_in, provided_by, name_of, priority_of, part_of, atom_path}
use Rattle.tf_flow.specs.Tree.{is_among}
use Rattle.tf_numbers.specs.Numbers.{Pair}
use Rattle.tf_model.specs.Before.{Flow, find_flow, no_flow, taken_symbols, listed, name_of_item, item_standing}
use Rattle.tf_model.specs.Scope.{task_part}
use Rattle.tf_model.specs.Plan.{Outline, own_flow}
use Rattle.tf_model.specs.Retries.{kind_of_part}

-- whether it is a retry controller
abbrev pub is_retry_in : Option Atom → Bool
is_retry_in o = option_map_or is_retry_part (option_map part_of o) false

-- whether it is a task
abbrev pub is_task_in : Option Atom → Bool
is_task_in o = option_map_or is_task_part (option_map part_of o) false

-- the task that it is
abbrev pub task_in : Option Atom → Option Task
task_in o = option_and_then task_part (option_map part_of o)

-- the kind of retry controller that it is
abbrev pub kind_in : Option Atom → Option RetryKind
kind_in o = option_and_then kind_of_part (option_map part_of o)

-- its arguments
abbrev pub arguments_in : Option Atom → List Arg
arguments_in o = option_map_or arguments_of (option_map part_of o) []

-- its injected values
abbrev pub injects_in : Option Atom → List Bind
injects_in o = option_map_or injected_in (option_map part_of o) []

-- what it provides
abbrev pub provides_in : Option Atom → Provides
provides_in o = option_map_or provided_by (option_map part_of o) provides.Nothing

-- its name
abbrev pub name_in : Option Atom → List ℕ
name_in o = option_map_or name_of (option_map part_of o) []

-- its priority
abbrev pub priority_in : Option Atom → ℤ
priority_in o = option_map_or priority_of (option_map part_of o) (pos 0)

-- its path from the root
abbrev pub path_in : Option Atom → List Turn
path_in o = option_map_or atom_path o []

-- the symbols that it takes from others
abbrev pub taken_by : Option Atom → List (List ℕ)
taken_by o = option_map_or taken_symbols (option_map part_of o) []

-- whether it provides the symbol
abbrev pub listed_by : Option Atom → List ℕ → Bool
listed_by o symbol = is_among (option_map_or listed (option_map part_of o) []) symbol

-- whether a part provides the symbol
abbrev pub part_lists : Part → List ℕ → Bool
part_lists part symbol = is_among (listed part) symbol

-- the item's name
abbrev pub item_name_in : Option Item → List ℕ
item_name_in o = option_map_or name_of_item o []

-- the item's atoms in standing order
abbrev pub standing_of : List Flow → Option Item → List ℕ
standing_of inner o = option_map_or (item_standing inner) o []

-- which item comes before which in the flow
abbrev pub order_in : Option Flow → List Pair
order_in o = (unwrap_or o no_flow).order

-- the flow's atoms in standing order
abbrev pub standing_in : Option Flow → List ℕ
standing_in o = (unwrap_or o no_flow).standing

-- the flow's linked pairs
abbrev pub linked_in : Option Flow → List Pair
linked_in o = (unwrap_or o no_flow).linked

-- the flow's retry controller
abbrev pub retry_in : Option Flow → Option ℕ
retry_in o = (unwrap_or o no_flow).place.retry

-- the links that are written in the flow
abbrev pub connections_in : Option Flow → List Connection
connections_in o = (unwrap_or o no_flow).place.links

-- the flow of a number that may be there
abbrev pub flow_in : Outline → Option ℕ → Option Flow
flow_in plan o = option_and_then (find_flow plan.flows) o

-- the flow in which a stands itself, if it stands in one
abbrev pub found_home : Outline → ℕ → Option Flow
found_home plan a = flow_in plan (own_flow plan a)
