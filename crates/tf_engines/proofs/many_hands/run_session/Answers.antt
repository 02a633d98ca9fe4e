use Rattle.std.proofs.Common.{◌≡◌, ℕ, Option, ap, subst, slice_index_or}
use Rattle.tf_hands.specs.Hands.{orders}
use Rattle.tf_book.specs.Book.{BookValue, outline}
use Rattle.tf_engines.specs.Asked.{HasDoneBy}
use Rattle.tf_engines.proofs.OrderLemmas.{never_done}
use Rattle.tf_engines.proofs.many_hands.run_session.Goals as goal

pub returns-in-Ok-clause-orders : goal.returns-in-Ok-clause-orders
returns-in-Ok-clause-orders g c = λ i d below.
    let same : c.in-Ok.shared.start ≡ c.args.book = ap (λ (o : BookValue g.row.K.Denot × Option ℕ × ℕ). o.0) c.in-Ok.ensures.origin in
    subst (λ (b : BookValue _). HasDoneBy (g.P.Performer.did (slice_index_or c.args.hands.now.items i d)) (orders (outline b) i b.past) (g.P.Performer.did (slice_index_or c.run_shared.new.hands.items i d)) (orders (outline b) i c.run_shared.result.book.past) c.run_shared.result.how)
    same (c.run_shared.ensures.orders i d below)

pub returns-in-Err-clause-orders : goal.returns-in-Err-clause-orders
returns-in-Err-clause-orders g c = λ i d below. never_done c.in-Err.end.how (g.P.Performer.did (slice_index_or c.args.hands.now.items i d)) _ _ (c.in-Err.ensures.orders i)
