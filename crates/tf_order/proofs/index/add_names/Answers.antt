use Rattle.tf_order.specs.Index.{told}
use Rattle.tf_order.proofs.IndexLemmas.{among_more}
use Rattle.tf_order.proofs.index.add_names.Goals as goal

pub loop-name-preserved : goal.loop-name-preserved
loop-name-preserved c = λ name.
    among_more c.args.names.now c.loop-name.name-index c.args.number c.name-item.result name (told c.args.index.now name) (told c.loop-name.index name) (told c.add.new.self name)
    c.loop-name-test.true c.name-item.is (c.loop-name.invariant name) (c.in_ok-add.ensures name)
