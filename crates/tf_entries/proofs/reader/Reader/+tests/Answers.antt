use Rattle.std.proofs.Common.{◌+◌, ◌-◌, arith}
use Rattle.tf_flow.specs.Outline.{condition_of}
use Rattle.tf_entries.specs.PlanReading.{read_test}
use Rattle.tf_entries.specs.Reading.{read_many}
use Rattle.tf_entries.proofs.ReadingLemmas.{shown_turn}
use Rattle.tf_entries.proofs.reader.Reader.+tests.Goals as goal

pub tests-loop-preserved : goal.tests-loop-preserved
tests-loop-preserved t c =
    rw c.in_ok-push.ensures.items (shown_turn condition_of (read_test c.args.left) c.loop.tests.items (c.in_ok-count.count - c.loop.counter) (c.in_ok-count.count - (c.loop.counter + 1)) c.loop.self c.test.new.self c.in_ok-test.field-0
    (read_many (read_test c.args.left) c.in_ok-count.count c.u16.new.self) (omega arith) c.in_ok-test.ensures.ok c.loop.invariant)
