use Rattle.tf_order.specs.Index.{told}
use Rattle.tf_order.proofs.IndexLemmas.{named_more}
use Rattle.tf_order.proofs.index.item_names.Goals as goal

pub loop-place-preserved : goal.loop-place-preserved
loop-place-preserved c = λ name.
    named_more c.args.items.now c.loop-place.place c.index-items-place.result name (told c.loop-place.index name) (told c.add.new.self name)
    c.loop-place-test.true c.index-items-place.is (c.loop-place.invariant name) (c.in_ok-add.ensures name)
