use Rattle.std.proofs.Common.{◌≡◌, List, ap, ◌∙◌}
use Rattle.tf_hands.specs.Hands.{orders}
use Rattle.tf_model.specs.Plan.{Outline}
use Rattle.tf_states.specs.declared.record.Entry.{Entry}
use Rattle.tf_book.specs.Book.{outline}
use Rattle.tf_engines.specs.Shared.{seen_past}
use Rattle.tf_engines.proofs.NextLemmas.{add_same}
use Rattle.tf_engines.proofs.HandLemmas.{took, took_asks, has_room, gives_turn, gave}
use Rattle.tf_engines.proofs.hand_loop.halt_book.Goals as goal

pub give-requires-clause-room : goal.give-requires-clause-room
give-requires-clause-room g c = has_room c.halt.new.self c.known-2.ensures.few

pub give-requires-clause-turn : goal.give-requires-clause-turn
give-requires-clause-turn g c =
    gives_turn c.args.turnstile.now c.args.hand c.args.pass.now c.take-shared.new.pass c.take-shared.result c.halt.new.self c.requires.idle c.take-shared.ensures.pass c.halt.ensures.origin
    (add_same c.args.hand c.take-shared.result.now.past c.halt.new.self.now.past c.halt.ensures.past)

pub returns-clause-orders : goal.returns-clause-orders
returns-clause-orders g c =
    let e = c.take-shared.ensures in
    let on = took c.args.turnstile.now c.args.hand c.args.pass.now c.take-shared.result c.take-shared.new.pass.seen c.requires.opened c.requires.idle e.origin e.history e.seen c.known.ensures.shared.inside in
    gave (λ (plan : Outline) (past : List Entry). orders plan c.args.hand past ≡ orders (outline c.args.turnstile.now.start.start) c.args.hand (seen_past c.args.turnstile.now c.args.pass.now))
    c.args.turnstile.now c.take-shared.result c.halt.new.self c.give.new.pass e.origin c.give.ensures.history
    (ap (orders (outline c.take-shared.result.start) c.args.hand) c.halt.ensures.past ∙ took_asks c.args.turnstile.now c.args.hand _ c.take-shared.result e.origin on)
