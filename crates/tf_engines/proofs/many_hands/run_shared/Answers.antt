use Rattle.std.proofs.Common.{◌≡◌, List, Option, subst, slice_index_or}
use Rattle.tf_actions.specs.declared.orders.Order.{Order}
use Rattle.tf_hands.specs.Hands.{orders}
use Rattle.tf_book.specs.Book.{outline}
use Rattle.tf_engines.specs.Asked.{HasDoneBy}
use Rattle.tf_engines.specs.Shared.{SharedValue}
use Rattle.tf_engines.proofs.many_hands.run_shared.Goals as goal

pub returns-in_default-clause-orders : goal.returns-in_default-clause-orders
returns-in_default-clause-orders g c = λ i d below. c.give_up.ensures.orders i (g.P.Performer.did (slice_index_or c.args.hands.now.items i d))

pub returns-in_default-with_capacity-clause-orders : goal.returns-in_default-with_capacity-clause-orders
returns-in_default-with_capacity-clause-orders g c = λ i d below. c.give_up-in_default-with_capacity.ensures.orders i (g.P.Performer.did (slice_index_or c.args.hands.now.items i d))

pub returns-in-Ok-make-clause-orders : goal.returns-in-Ok-make-clause-orders
returns-in-Ok-make-clause-orders g c = λ i d below.
    let made = c.in-Ok-make.ensures.made.0 in
    let same : c.in-Ok-make.turnstile.start ≡ c.args.shared = cc (made, c.in-Ok-make.turnstile-is) in
    subst (λ (s : SharedValue _). HasDoneBy (g.P.Performer.did (slice_index_or c.args.hands.now.items i d)) (orders (outline s.start) i s.start.past) (g.P.Performer.did (slice_index_or c.run_hands.new.hands.items i d)) (orders (outline s.start) i c.run_hands.result.book.past) c.run_hands.result.how)
    same (c.run_hands.ensures.orders i d below)

pub returns-in-Err-clause-orders : goal.returns-in-Err-clause-orders
returns-in-Err-clause-orders g c = λ i d below.
    let did : Option (List Order) = g.P.Performer.did (slice_index_or c.args.hands.now.items i d) in
    let same : c.in-Err.shared ≡ c.args.shared = cc (c.in-Err.ensures.back, c.in-Err.shared-is) in
    subst (λ (s : SharedValue _). HasDoneBy did (orders (outline s.start) i s.start.past) did (orders (outline s.start) i c.give_up-in-Err.result.book.past) c.give_up-in-Err.result.how)
    same (c.give_up-in-Err.ensures.orders i did)
