use Rattle.std.proofs.Common.{◌≡◌, ◌<◌, length, arith, slice_index_or}
use Rattle.std.proofs.lemmas.Grind.{common_steps}
use Rattle.tf_order.specs.Context.{count_seen}
use Rattle.tf_links.proofs.BitLemmas.{index_zero}
use Rattle.tf_order.proofs.LinkingLemmas.{giver_within}
use Rattle.tf_order.proofs.linking.link_symbol.Goals as goal

pub insert-requires-2-clause-first : goal.insert-requires-2-clause-first
insert-requires-2-clause-first c =
    let some : 0 < length c.in_ok-from.from.items = grind (arith, common_steps) in
    let zero : c.index.result.now ≡ slice_index_or c.in_ok-from.from.items 0 0 = index_zero c.in_ok-from.from.items 0 c.index.result.now some c.index.ensures in
    let below : slice_index_or c.in_ok-from.from.items 0 0 < count_seen c.args.context.now = giver_within c.args.context.now c.args.item c.args.symbol.now c.in_ok-from.from.items c.in_ok-from.ensures.all some in
    omega (arith, zero, below, c.requires.count)
