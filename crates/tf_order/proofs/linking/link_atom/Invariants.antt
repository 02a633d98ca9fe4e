use Rattle.std.proofs.Common.{◌≡◌, length, take}
use Rattle.tf_links.specs.Bits.{words_for}
use Rattle.tf_order.specs.Context.{count_seen}
use Rattle.tf_order.proofs.TurnLemmas.{TurnsSeen}
use Rattle.tf_order.proofs.linking.link_atom.Given as goal

abbrev pub invariant-loop-turn : goal.invariant-loop-turn
invariant-loop-turn l = record {
  count : l.found.links.count ≡ count_seen l.context;
  wide : length l.found.ambiguities ≡ words_for (count_seen l.context);
  seen : TurnsSeen l.context l.atom l.fn.found.links l.fn.found.ambiguities l.found.links l.found.ambiguities (take l.turn-index l.turn-items);
}
