use Rattle.std.proofs.Common.{◌∙◌, ap, List, length, map}
use Rattle.tf_numbers.specs.Numbers.{which_below}
use Rattle.tf_flow.specs.declared.listing.ItemPlace.{ItemPlace}
use Rattle.tf_order.specs.Index.{is_named_at}
use Rattle.tf_flow.specs.Listing.{shown_item}
use Rattle.tf_order.proofs.ExplicitLemmas.{explicit_more, explicit_all, named_below, NamesItems}
use Rattle.tf_order.proofs.linking.explicit.Goals as goal

pub link_all-requires-clause-from : goal.link_all-requires-clause-from
link_all-requires-clause-from c =
    let named : NamesItems c.in_ok-names.names c.args.level.now = λ name. c.in_ok-names.ensures name ∙ ap (λ (xs : List ItemPlace). which_below (length xs) (is_named_at (map shown_item xs) name)) c.deref.ensures.value in
    named_below c.in_ok-names.names c.args.level.now c.link-item.result.from c.numbers.result.now c.loop-link.links.count named c.numbers.ensures c.loop-link.invariant.same_count

pub link_all-requires-clause-to : goal.link_all-requires-clause-to
link_all-requires-clause-to c =
    let named : NamesItems c.in_ok-names.names c.args.level.now = λ name. c.in_ok-names.ensures name ∙ ap (λ (xs : List ItemPlace). which_below (length xs) (is_named_at (map shown_item xs) name)) c.deref.ensures.value in
    named_below c.in_ok-names.names c.args.level.now c.link-item.result.to c.numbers-in-loop-link.result.now c.loop-link.links.count named c.numbers-in-loop-link.ensures c.loop-link.invariant.same_count

pub loop-link-preserved : goal.loop-link-preserved
loop-link-preserved c =
    let named : NamesItems c.in_ok-names.names c.args.level.now = λ name. c.in_ok-names.ensures name ∙ ap (λ (xs : List ItemPlace). which_below (length xs) (is_named_at (map shown_item xs) name)) c.deref.ensures.value in
    explicit_more c.args.level.now c.in_ok-names.names c.loop-link.links c.link_all.new.links c.items-link-items.result.now c.loop-link.link-index c.link-item.result c.numbers.result.now c.numbers-in-loop-link.result.now c.loop-link.invariant c.loop-link-test.true c.link-item.is
    named c.numbers.ensures c.numbers-in-loop-link.ensures c.link_all.ensures.count c.link_all.ensures.more

pub returns-clause-links : goal.returns-clause-links
returns-clause-links c = explicit_all c.args.level.now c.loop-link.links c.items-link-items.result.now c.loop-link.link-index c.loop-link.invariant c.loop-link-test.false c.items-link-items.ensures
