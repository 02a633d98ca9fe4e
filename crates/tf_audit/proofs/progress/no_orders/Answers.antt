use Rattle.std.proofs.Common.{◌∷◌, [], None, ap, arith, length, length-append}
use Rattle.tf_audit.proofs.KeepLemmas.{whole_more}
use Rattle.tf_audit.proofs.progress.no_orders.Goals as goal

pub loop-atom-preserved : goal.loop-atom-preserved
loop-atom-preserved c = record {
  many = omega (arith, c.loop-atom.invariant.many, ap length c.in_ok-push.ensures.items, length-append c.loop-atom.orders.items (None ∷ []));
  whole = whole_more c.loop-atom.orders.items c.push.new.self.items c.in_ok-push.ensures.items c.loop-atom.invariant.whole;
}
