use Rattle.std.proofs.Common.{◌≡◌, ◌∙◌, sym, ap, slice_index_or, arith}
use Rattle.std.proofs.lemmas.Grind.{common_steps}
use Rattle.tf_order.specs.Context.{count_seen}
use Rattle.tf_flow.specs.declared.listing.AtomPlace.{AtomPlace}
use Rattle.tf_order.proofs.ContextLemmas.{marked_next, marked_all, provider_within, path_seen}
use Rattle.tf_order.proofs.context.providing_items.Goals as goal

pub loop-atom-preserved : goal.loop-atom-preserved
loop-atom-preserved c =
    let same : c.len-count.result ≡ count_seen c.args.context.now = grind (arith, common_steps) in
    marked_next c.args.context.now c.loop-atom.set c.mark_items.new.set c.numbers-atom-items.result.now c.loop-atom.atom-index c.turns-path.result.now c.len-count.result same c.loop-atom.invariant c.loop-atom-test.true
    (c.turns-path.ensures ∙ (ap (λ (a : AtomPlace). a.path) (sym c.index-context-atom.is)
    ∙ sym (path_seen c.args.context.now.atoms.now (slice_index_or c.numbers-atom-items.result.now c.loop-atom.atom-index 0) c.index-context-atom.result
    (provider_within c.args.context.now c.args.symbol.now c.numbers-atom-items.result.now c.loop-atom.atom-index c.requires.providers c.numbers-atom-items.ensures c.loop-atom-test.true) c.index-context-atom.is)))
    c.mark_items.ensures.wide c.mark_items.ensures.set

pub returns : goal.returns
returns c = marked_all c.args.context.now c.args.symbol.now c.loop-atom.set c.numbers-atom-items.result.now c.in_ok-items.items.items c.loop-atom.atom-index c.requires.providers c.numbers-atom-items.ensures c.loop-atom.invariant c.loop-atom-test.false c.in_ok-items.ensures
