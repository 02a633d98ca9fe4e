use Rattle.tf_flow.specs.Paths.{shown_part}
use Rattle.tf_order.proofs.AmbiguityLemmas.{part_more}
use Rattle.tf_order.proofs.ambiguities.add_of_part.Goals as goal

pub loop-arg-preserved : goal.loop-arg-preserved
loop-arg-preserved c = part_more c.args.context.now c.args.item c.args.atom (shown_part c.args.part) c.args.symbols.now.items c.loop-arg.symbols.items c.add_of_argument.new.symbols.items c.args-arg-items.result.now c.loop-arg.arg-index c.arg-item.result
    c.loop-arg.invariant c.loop-arg-test.true c.arg-item.is c.in_ok-add_of_argument.ensures
