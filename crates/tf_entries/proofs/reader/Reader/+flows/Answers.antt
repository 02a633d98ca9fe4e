use Rattle.std.proofs.Common.{◌+◌, ◌-◌, arith}
use Rattle.tf_entries.specs.PlanReading.{read_flow, read_item}
use Rattle.tf_entries.specs.Reading.{read_many}
use Rattle.tf_flow.specs.Plan.{item_as_written}
use Rattle.tf_entries.proofs.ReadingLemmas.{shown_turn}
use Rattle.tf_entries.proofs.reader.Reader.+flows.Goals as goal

pub nested-loop-preserved : goal.nested-loop-preserved
nested-loop-preserved t c =
    rw c.in_ok-push.ensures.items (shown_turn item_as_written (read_item (read_flow c.args.left)) c.loop.items.items (c.in_ok-count.count - c.loop.counter) (c.in_ok-count.count - (c.loop.counter + 1)) c.loop.self c.item.new.self c.in_ok-item.field-0
    (read_many (read_item (read_flow c.args.left)) c.in_ok-count.count c.u16.new.self) (omega arith) c.in_ok-item.ensures.ok c.loop.invariant)
