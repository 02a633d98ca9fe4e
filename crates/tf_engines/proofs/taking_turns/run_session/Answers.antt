use Rattle.std.proofs.Common.{◌≡◌, ℕ, List, Option, ap, subst, sym, ◌∙◌, slice_index_or, vec_len}
use Rattle.tf_states.specs.declared.record.Entry.{Entry}
use Rattle.tf_hands.specs.Hands.{orders}
use Rattle.tf_model.specs.Plan.{Outline}
use Rattle.tf_book.specs.Book.{BookValue, outline}
use Rattle.tf_engines.specs.Asked.{HasDoneBy}
use Rattle.tf_engines.specs.Shared.{entered_past}
use Rattle.tf_engines.specs.Taking.{TakesTurns, only_entered}
use Rattle.tf_engines.proofs.OrderLemmas.{never_done}
use Rattle.tf_engines.proofs.TurnsLemmas.{ran_so}
use Rattle.tf_engines.proofs.taking_turns.run_session.Goals as goal

pub returns-in-Ok-clause-turns : goal.returns-in-Ok-clause-turns
returns-in-Ok-clause-turns g c =
    let same : c.in-Ok.shared.start ≡ c.args.book = ap (λ (o : BookValue g.row.K.Denot × Option ℕ × ℕ). o.0) c.in-Ok.ensures.origin in
    let after = c.run_shared.result.book.past in
    let begun = c.in-Ok.shared.now.past in
    ran_so (outline c.args.book) c.args.picks.now (vec_len c.args.hands.now) c.args.book.past begun after (c.in-Ok.ensures.fresh.fresh ∙ ap (λ (b : BookValue g.row.K.Denot). entered_past b.past) same)
    (subst (λ (b : BookValue g.row.K.Denot). TakesTurns (outline b) c.args.picks.now (vec_len c.args.hands.now) begun after) same c.run_shared.ensures.taken)

pub returns-in-Err-clause-turns : goal.returns-in-Err-clause-turns
returns-in-Err-clause-turns g c = only_entered c.in-Err.ensures.begun

pub returns-in-Ok-clause-orders : goal.returns-in-Ok-clause-orders
returns-in-Ok-clause-orders g c = λ i d below.
    let same : c.in-Ok.shared.start ≡ c.args.book = ap (λ (o : BookValue g.row.K.Denot × Option ℕ × ℕ). o.0) c.in-Ok.ensures.origin in
    subst (λ (b : BookValue _). HasDoneBy (g.P.Performer.did (slice_index_or c.args.hands.now.items i d)) (orders (outline b) i b.past) (g.P.Performer.did (slice_index_or c.run_shared.new.hands.items i d)) (orders (outline b) i c.run_shared.result.book.past) c.run_shared.result.how)
    same (c.run_shared.ensures.orders i d below)

pub returns-in-Err-clause-orders : goal.returns-in-Err-clause-orders
returns-in-Err-clause-orders g c = λ i d below. never_done c.in-Err.end.how (g.P.Performer.did (slice_index_or c.args.hands.now.items i d)) _ _ (c.in-Err.ensures.orders i)
