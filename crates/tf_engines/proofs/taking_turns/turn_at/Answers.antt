use Rattle.std.proofs.Common.{◌<◌, ℕ, length, sym, ◌∙◌, subst, arith}
use Rattle.std.proofs.lemmas.List.{get_or-set_same}
use Rattle.tf_hands.specs.Hands.{orders}
use Rattle.tf_book.specs.Book.{outline}
use Rattle.tf_engines.specs.Taking.{HasDoneStep, HasGiven}
use Rattle.tf_engines.proofs.TakingLemmas.{same_at}
use Rattle.tf_engines.proofs.taking_turns.turn_at.Goals as goal

pub returns-clause-orders : goal.returns-clause-orders
returns-clause-orders g c = λ told base d given.
    let n : ℕ = c.args.number in
    let hands = c.args.hands.now.items in
    let hand = c.turn.new.hand in
    let below : n < length hands = omega (arith, c.requires.there) in
    subst (λ (h : g.row.P.Denot). HasDoneStep told base (g.P.Performer.did h) (orders (outline c.args.shared.now.start) n c.turn.new.shared.now.past) c.turn.result) (sym (get_or-set_same hands n hand d below))
    (c.turn.ensures.orders told base
    (subst (λ (h : g.row.P.Denot). HasGiven told base (g.P.Performer.did h) (orders (outline c.args.shared.now.start) n c.args.shared.now.now.past) c.args.order)
    (same_at hands n d c.index_mut.result.now below ∙ sym c.index_mut.ensures.value) given))
