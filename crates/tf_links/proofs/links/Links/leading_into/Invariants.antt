use Rattle.tf_links.proofs.CycleLemmas.{IntoBelow}
use Rattle.tf_links.proofs.links.Links.leading_into.Given as goal

abbrev pub invariant-loop-item : goal.invariant-loop-item
invariant-loop-item l = IntoBelow l.self l.set l.found l.item
