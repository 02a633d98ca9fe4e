use Rattle.std.proofs.Common.{◌∙◌, sym}
use Rattle.tf_links.proofs.CycleLemmas.{layers_more, not_yet_back}
use Rattle.tf_links.proofs.links.Links.cycle.Goals as goal

pub loop-length-preserved : goal.loop-length-preserved
loop-length-preserved c = record {
  layers = rw c.in_ok-push-2.ensures.items
      (layers_more c.args.self.now c.args.item c.loop-length.layers.items c.loop-length.length c.index.result.now c.in_ok-layer.layer c.loop-length.invariant.layers c.index.ensures c.in_ok-layer.ensures.wide c.in_ok-layer.ensures.set);
  never = not_yet_back c.args.self.now c.args.item c.loop-length.length c.in_ok-layer.layer c.index.result.now c.loop-length.layers.items c.loop-length.invariant.layers c.index.ensures c.in_ok-layer.ensures.set c.requires
      (sym c.has.ensures ∙ c.if-has.false) c.loop-length.invariant.never;
}
