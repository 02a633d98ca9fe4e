use Rattle.tf_links.proofs.CycleLemmas.{Walking}
use Rattle.tf_links.proofs.links.Links.walk.Given as goal

abbrev pub invariant-loop-layer : goal.invariant-loop-layer
invariant-loop-layer l = Walking l.self l.item l.links l.items.items l.at l.layer
