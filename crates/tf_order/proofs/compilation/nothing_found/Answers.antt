use Rattle.tf_order.proofs.CompilationLemmas.{none_more}
use Rattle.tf_order.proofs.compilation.nothing_found.Goals as goal

pub loop-preserved : goal.loop-preserved
loop-preserved c = record {
  table = none_more c.loop.table.items c.push.new.self.items c.loop.counter c.loop.invariant.table c.in_ok-push.ensures.items;
  faults = none_more c.loop.faults.items c.push-in-loop.new.self.items c.loop.counter c.loop.invariant.faults c.in_ok-push-2.ensures.items;
}
