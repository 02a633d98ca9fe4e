use Rattle.std.proofs.Common.{List}
use Rattle.tf_hands.specs.Hands.{orders}
use Rattle.tf_model.specs.Plan.{Outline}
use Rattle.tf_states.specs.declared.record.Entry.{Entry}
use Rattle.tf_engines.specs.Working.{HasNext, HasDoneNext}
use Rattle.tf_engines.proofs.OrderLemmas.{same_done}
use Rattle.tf_engines.proofs.HandLemmas.{took, took_free, took_asks, has_room, gives_turn, gave}
use Rattle.tf_engines.proofs.hand_loop.begin_turn.Goals as goal

pub next-next-requires-clause-free : goal.next-next-requires-clause-free
next-next-requires-clause-free g c =
    let e = c.take-shared.ensures in
    took_free c.args.turnstile.now c.args.hand _ c.take-shared.result e.origin
    (took c.args.turnstile.now c.args.hand c.args.pass.now c.take-shared.result c.take-shared.new.pass.seen c.requires.opened c.requires.ready.idle e.origin e.history e.seen c.known.ensures.shared.inside) c.requires.ready.free

pub give-requires-clause-room : goal.give-requires-clause-room
give-requires-clause-room g c = has_room c.next-next.new.self c.known-2.ensures.few

pub give-requires-clause-turn : goal.give-requires-clause-turn
give-requires-clause-turn g c =
    gives_turn c.args.turnstile.now c.args.hand c.args.pass.now c.take-shared.new.pass c.take-shared.result c.next-next.new.self c.requires.ready.idle c.take-shared.ensures.pass c.next-next.ensures.origin c.next-next.ensures.added

pub returns-clause-has : goal.returns-clause-has
returns-clause-has g c =
    gave (λ (plan : Outline) (past : List Entry). HasNext plan past c.args.hand c.next-next.result) c.args.turnstile.now c.take-shared.result c.next-next.new.self c.give.new.pass c.take-shared.ensures.origin c.give.ensures.history c.next-next.ensures.has

pub returns-clause-orders : goal.returns-clause-orders
returns-clause-orders g c = λ told base did has.
    let e = c.take-shared.ensures in
    let on = took c.args.turnstile.now c.args.hand c.args.pass.now c.take-shared.result c.take-shared.new.pass.seen c.requires.opened c.requires.ready.idle e.origin e.history e.seen c.known.ensures.shared.inside in
    gave (λ (plan : Outline) (past : List Entry). HasDoneNext told base did (orders plan c.args.hand past) c.next-next.result) c.args.turnstile.now c.take-shared.result c.next-next.new.self c.give.new.pass e.origin c.give.ensures.history
    (c.next-next.ensures.orders told base did (same_done told base did _ _ (took_asks c.args.turnstile.now c.args.hand _ c.take-shared.result e.origin on) has))
