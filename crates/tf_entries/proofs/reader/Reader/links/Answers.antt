use Rattle.std.proofs.Common.{◌+◌, ◌-◌, arith}
use Rattle.tf_flow.specs.Outline.{connection_of}
use Rattle.tf_entries.specs.PlanReading.{read_link}
use Rattle.tf_entries.specs.Reading.{read_many}
use Rattle.tf_entries.proofs.ReadingLemmas.{shown_turn}
use Rattle.tf_entries.proofs.reader.Reader.links.Goals as goal

pub loop-preserved : goal.loop-preserved
loop-preserved c =
    rw c.in_ok-push.ensures.items (shown_turn connection_of read_link c.loop.links.items (c.in_ok-count.count - c.loop.counter) (c.in_ok-count.count - (c.loop.counter + 1)) c.loop.self c.link.new.self c.in_ok-link.field-0
    (read_many read_link c.in_ok-count.count c.u16.new.self) (omega arith) c.in_ok-link.ensures.ok c.loop.invariant)
