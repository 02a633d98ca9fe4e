use Rattle.tf_order.specs.Index.{told}
use Rattle.tf_order.proofs.IndexLemmas.{provides_more}
use Rattle.tf_order.proofs.index.providers.Goals as goal

pub loop-number-preserved : goal.loop-number-preserved
loop-number-preserved c = λ symbol.
    provides_more c.args.atoms.now c.loop-number.number c.index-atoms-number.result c.provides.result.now symbol (told c.loop-number.index symbol) (told c.add_provided.new.index symbol)
    c.loop-number-test.true c.index-atoms-number.is c.provides.ensures (c.loop-number.invariant symbol) (c.in_ok-add_provided.ensures symbol)
