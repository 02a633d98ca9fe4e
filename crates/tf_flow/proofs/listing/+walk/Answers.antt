use Rattle.std.proofs.Common.{◌≡◌, ◌∙◌, length, arith}
use Rattle.tf_flow.proofs.ListingLemmas.{walk_next, walk_levels, walk_inner, all_read}
use Rattle.tf_flow.proofs.listing.+walk.Goals as goal

pub add_flow-loop-place-preserved : goal.add_flow-loop-place-preserved
add_flow-loop-place-preserved t c =
    walk_next c.args.path.now c.deref.result.now c.args.flow.now c.len-number.result c.loop-place.place c.item-item.result c.items-item-items.result.now
    c.args.outline.now.atoms.items c.loop-place.outline.atoms.items c.add_item.new.outline.atoms.items
    c.args.outline.now.levels.items c.loop-place.outline.levels.items c.add_item.new.outline.levels.items
    c.args.outline.now.inner_first.items c.loop-place.outline.inner_first.items c.add_item.new.outline.inner_first.items
    c.loop-place.items.items c.push-in-loop-place.new.self.items c.in_ok-add_item.field-0
    c.loop-place.invariant c.items-item-items.ensures c.loop-place-test.true c.item-item.is
    (c.deref.ensures.value ∙ c.in_ok-below.ensures)
    c.in_ok-add_item.ensures.item c.in_ok-add_item.ensures.atoms c.in_ok-add_item.ensures.levels c.in_ok-add_item.ensures.inner c.in_ok-push-2.ensures.items

pub add_flow-returns-clause-levels : goal.add_flow-returns-clause-levels
add_flow-returns-clause-levels t c =
    let g_is : c.len-number.result ≡ length c.args.outline.now.levels.items = omega arith in
    walk_levels c.args.path.now c.args.flow.now c.len-number.result c.args.outline.now.atoms.items c.loop-place.outline.atoms.items c.args.outline.now.levels.items c.loop-place.outline.levels.items
    c.args.outline.now.inner_first.items c.loop-place.outline.inner_first.items c.loop-place.items.items c.loop-place.place
    c.loop-place.invariant (all_read c.items-item-items.result.now c.args.flow.now.items.items.items c.loop-place.place c.items-item-items.ensures c.loop-place-test.false) g_is
    c.put_items.new.levels.items c.put_items.ensures

pub add_flow-returns-clause-inner : goal.add_flow-returns-clause-inner
add_flow-returns-clause-inner t c =
    let g_is : c.len-number.result ≡ length c.args.outline.now.levels.items = omega arith in
    walk_inner c.args.path.now c.args.flow.now c.len-number.result c.args.outline.now.atoms.items c.loop-place.outline.atoms.items c.args.outline.now.levels.items c.loop-place.outline.levels.items
    c.args.outline.now.inner_first.items c.loop-place.outline.inner_first.items c.loop-place.items.items c.loop-place.place
    c.loop-place.invariant (all_read c.items-item-items.result.now c.args.flow.now.items.items.items c.loop-place.place c.items-item-items.ensures c.loop-place-test.false) g_is
    c.push-2.new.self.items c.in_ok-push-3.ensures.items
