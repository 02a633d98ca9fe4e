use Rattle.std.proofs.Common.{◌+◌, ◌-◌, arith}
use Rattle.tf_entries.specs.Reading.{read_many}
use Rattle.tf_entries.proofs.ReadingLemmas.{read_turn}
use Rattle.tf_entries.proofs.reader.Reader.items.Goals as goal

pub loop-preserved : goal.loop-preserved
loop-preserved g c =
    rw c.in_ok-push.ensures.items (read_turn g.T.Item.read c.loop.items.items (c.in_ok-count.count - c.loop.counter) (c.in_ok-count.count - (c.loop.counter + 1)) c.loop.self c.take.new.reader c.in_ok-take.field-0
    (read_many g.T.Item.read c.in_ok-count.count c.u16.new.self) (omega arith) c.in_ok-take.ensures.ok c.loop.invariant)
