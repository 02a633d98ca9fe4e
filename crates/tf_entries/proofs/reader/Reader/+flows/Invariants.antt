use Rattle.std.proofs.Common.{◌≡◌, ◌+◌, ◌-◌, ◌*◌, map}
use Rattle.tf_entries.specs.PlanReading.{read_flow, read_item}
use Rattle.tf_entries.specs.Reading.{read_many}
use Rattle.tf_flow.specs.Plan.{item_as_written}
use Rattle.tf_entries.proofs.ReadingLemmas.{after}
use Rattle.tf_entries.proofs.reader.Reader.+flows.Given as goal

-- a nested flow comes with one less that may still stand within it; between two flows the calls go from
-- a flow to its items and to an item
abbrev pub decreases-flow_over : goal.decreases-flow_over
decreases-flow_over l = 4 * l.left + 4

abbrev pub decreases-nested : goal.decreases-nested
decreases-nested l = 4 * l.left + 3

abbrev pub decreases-item : goal.decreases-item
decreases-item l = 4 * l.left + 2

abbrev pub decreases-flow : goal.decreases-flow
decreases-flow l = 4 * l.left + 1

-- the items that were read, followed by those that are left, are all of them
abbrev pub invariant-nested-loop : goal.invariant-nested-loop
invariant-nested-loop l = after (map item_as_written l.items.items) (read_many (read_item (read_flow l.left)) (l.count - l.counter) l.self) ≡ read_many (read_item (read_flow l.left)) l.count l.initial.self
