use Rattle.tf_order.proofs.ContextLemmas.{unserved_not, unserved_all}
use Rattle.tf_order.proofs.context.is_unserved.Goals as goal

pub returns-then-serves : goal.returns-then-serves
returns-then-serves c = unserved_not c.args.context.now c.args.item c.args.atom c.args.symbol.now c.numbers-other-items.result.now c.loop-other.other-index c.requires.providers c.numbers-other-items.ensures c.loop-other-test.true c.if-serves.ensures

pub returns : goal.returns
returns c = unserved_all c.args.context.now c.args.item c.args.atom c.args.symbol.now c.numbers-other-items.result.now c.loop-other.other-index c.requires.providers c.numbers-other-items.ensures c.loop-other.invariant c.loop-other-test.false
