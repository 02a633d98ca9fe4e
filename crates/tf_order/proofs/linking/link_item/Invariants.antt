use Rattle.tf_flow.specs.Paths.{shown_part}
use Rattle.std.proofs.Common.{◌≡◌, length, take}
use Rattle.tf_links.specs.Bits.{words_for}
use Rattle.tf_order.specs.Context.{count_seen}
use Rattle.tf_order.proofs.LinkingLemmas.{ArgumentsSeen}
use Rattle.tf_order.proofs.linking.link_item.Given as goal

abbrev pub invariant-loop-arg : goal.invariant-loop-arg
invariant-loop-arg l = record {
  count : l.found.links.count ≡ count_seen l.context;
  wide : length l.found.ambiguities ≡ words_for (count_seen l.context);
  seen : ArgumentsSeen l.context l.item l.atom (shown_part l.part) l.fn.found.links l.fn.found.ambiguities l.found.links l.found.ambiguities (take l.arg-index l.arg-items);
}
