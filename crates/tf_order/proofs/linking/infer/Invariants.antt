use Rattle.std.proofs.Common.{◌≡◌, length}
use Rattle.tf_links.specs.Bits.{words_for}
use Rattle.tf_order.specs.Context.{count_seen}
use Rattle.tf_order.proofs.TurnLemmas.{AtomsSeen}
use Rattle.tf_order.proofs.linking.infer.Given as goal

abbrev pub invariant-loop-atom : goal.invariant-loop-atom
invariant-loop-atom l = record {
  count : l.found.links.count ≡ count_seen l.context;
  wide : length l.found.ambiguities ≡ words_for (count_seen l.context);
  seen : AtomsSeen l.context l.fn.found.links l.fn.found.ambiguities l.found.links l.found.ambiguities l.atom;
}
