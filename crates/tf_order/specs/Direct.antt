-- The tasks that an atom leads to, found by the items at which tasks stand.
use Rattle.std.specs.Prelude.{◌≡◌, ℕ, List, Bool, ◌&&◌, Option, None, Some, slice_get, if◌then◌else◌}
use Rattle.std.specs.List.{list_any}
use Rattle.tf_flow.specs.Outline.{is_task_part}
use Rattle.tf_flow.specs.Paths.{shown_part}
use Rattle.tf_model.specs.Readiness.{last_item}
use Rattle.tf_model.specs.Plan.{last_flow}
use Rattle.tf_numbers.specs.Numbers.{which_below, is_number, has_number}
use Rattle.tf_flow.specs.declared.listing.AtomPlace.{AtomPlace}
use Rattle.tf_flow.specs.declared.listing.Outline.{Outline}
use Rattle.tf_order.specs.Rows.{row_at}

-- the item of its own flow at which an atom stands, where it is a task
abbrev pub task_item : AtomPlace → Option ℕ
task_item atom = if is_task_part (shown_part atom.part) then last_item atom.path else None

-- an atom is a task that stands at this item of its own flow
abbrev pub is_at_item : ℕ → Option AtomPlace → Bool
is_at_item item None = is_number None item
is_at_item item (Some atom) = is_number (task_item atom) item

-- the same of the atom of a number
abbrev pub stands_at : Outline → ℕ → ℕ → Bool
stands_at outline item k = is_at_item item (slice_get outline.atoms.items k)

-- each row has the tasks that stand at the item of its number, in whichever flow
abbrev pub AreTasksByItem : Outline → ℕ → List (List ℕ) → Type 0
AreTasksByItem outline count rows = (item : ℕ) → row_at rows item ≡ which_below count (stands_at outline item)

-- an atom stands in flow g itself
abbrev pub is_in_own : ℕ → Option AtomPlace → Bool
is_in_own g None = is_number None g
is_in_own g (Some atom) = is_number (last_flow atom.path) g

-- the same of the atom of a number
abbrev pub is_own : Outline → ℕ → ℕ → Bool
is_own outline g k = is_in_own g (slice_get outline.atoms.items k)

-- the atom stands in flow g itself, in the row of one of these items
abbrev pub is_at_one : Outline → ℕ → List (List ℕ) → List ℕ → ℕ → Bool
is_at_one outline g rows items k = list_any (λ item. has_number (row_at rows item) k && is_own outline g k) items
