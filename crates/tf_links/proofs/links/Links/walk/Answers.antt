use Rattle.std.proofs.Common.{◌∙◌, ◌-◌, sym, arith}
use Rattle.tf_links.proofs.CycleLemmas.{walk_on}
use Rattle.tf_links.proofs.links.Links.walk.Goals as goal

pub loop-layer-preserved : goal.loop-layer-preserved
loop-layer-preserved c = rw c.in_ok-push.ensures.items
    (walk_on c.args.self.now c.args.item c.args.links c.loop-layer.items.items c.loop-layer.at c.loop-layer.layer (c.loop-layer.layer - 1) c.in-Some.next c.args.layers.now c.index-layers-layer.result
    c.loop-layer.invariant (omega arith) c.requires.layers (omega arith) c.index-layers-layer.is (sym c.in-Some.is ∙ c.first_into.ensures))
