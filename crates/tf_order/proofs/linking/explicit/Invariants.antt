use Rattle.std.proofs.Common.{take}
use Rattle.tf_order.proofs.ExplicitLemmas.{ExplicitBy}
use Rattle.tf_order.proofs.linking.explicit.Given as goal

abbrev pub invariant-loop-link : goal.invariant-loop-link
invariant-loop-link l = ExplicitBy l.level l.links (take l.link-index l.link-items)
