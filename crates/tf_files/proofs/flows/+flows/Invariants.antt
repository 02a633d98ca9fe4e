use Rattle.std.proofs.Common.{◌≡◌, ◌+◌, ◌*◌, map}
use Rattle.tf_files.specs.document.Reading.{each}
use Rattle.tf_files.proofs.ReadingLemmas.{after, each_from}
use Rattle.tf_files.specs.FlowFile.{item_form}
use Rattle.tf_flow.specs.Plan.{item_as_written}
use Rattle.toml.specs.View.{items_view}
use Rattle.tf_files.proofs.flows.+flows.Given as goal

-- a nested flow comes with one less that may still stand within it; between two flows the calls go
-- from a flow to its items, to an item and to its table
abbrev pub decreases-flow_inside : goal.decreases-flow_inside
decreases-flow_inside l = 8 * l.left + 7

abbrev pub decreases-items_at : goal.decreases-items_at
decreases-items_at l = 8 * l.left + 6

abbrev pub decreases-items_form : goal.decreases-items_form
decreases-items_form l = 8 * l.left + 5

abbrev pub decreases-each_item : goal.decreases-each_item
decreases-each_item l = 8 * l.left + 4

abbrev pub decreases-item_form : goal.decreases-item_form
decreases-item_form l = 8 * l.left + 3

abbrev pub decreases-item_table : goal.decreases-item_table
decreases-item_table l = 8 * l.left + 2

abbrev pub decreases-nested_flow : goal.decreases-nested_flow
decreases-nested_flow l = 8 * l.left + 1

abbrev pub decreases-flow_table : goal.decreases-flow_table
decreases-flow_table l = 8 * l.left + 8

-- the items made, followed by those of what is left, are those of all
abbrev pub invariant-each_item-loop-number : goal.invariant-each_item-loop-number
invariant-each_item-loop-number l = after (map item_as_written l.items.items) (each_from (item_form l.left) l.path l.number l.array) ≡ each (item_form l.left) l.path 0 (items_view l.array)
