use Rattle.std.proofs.Common.{rules, ◌≡◌, true, List, ◌∙◌}
use Rattle.tf_hands.specs.Hands.{orders}
use Rattle.tf_model.specs.History.{snapshot}
use Rattle.tf_model.specs.Plan.{Outline}
use Rattle.tf_model.specs.Steps.{is_free}
use Rattle.tf_states.specs.declared.record.Entry.{Entry}
use Rattle.tf_book.specs.Book.{outline}
use Rattle.tf_engines.specs.Shared.{seen_past}
use Rattle.tf_engines.proofs.HandLemmas.{took, took_outcome, took_asks, has_room, gives_turn, gave}
use Rattle.tf_engines.proofs.hand_loop.end_turn.Goals as goal

pub finish-goes_on-requires-clause-has : goal.finish-goes_on-requires-clause-has
finish-goes_on-requires-clause-has g c =
    let e = c.take-shared.ensures in
    took_outcome g.P.Performer.gives c.args.turnstile.now c.args.hand _ c.take-shared.result c.args.outcome e.origin
    (took c.args.turnstile.now c.args.hand c.args.pass.now c.take-shared.result c.take-shared.new.pass.seen c.requires.opened c.requires.idle e.origin e.history e.seen c.known.ensures.shared.inside)
    c.known.ensures.legal c.requires.has

pub give-requires-clause-room : goal.give-requires-clause-room
give-requires-clause-room g c = has_room c.finish-goes_on.new.self c.known-2.ensures.few

pub give-requires-clause-turn : goal.give-requires-clause-turn
give-requires-clause-turn g c =
    gives_turn c.args.turnstile.now c.args.hand c.args.pass.now c.take-shared.new.pass c.take-shared.result c.finish-goes_on.new.self c.requires.idle c.take-shared.ensures.pass c.finish-goes_on.ensures.origin c.finish-goes_on.ensures.added

pub returns-clause-ready : goal.returns-clause-ready
returns-clause-ready g c = λ goes. record {
  idle = search rules;
  free = gave (λ (plan : Outline) (past : List Entry). is_free plan (snapshot plan past) c.args.hand ≡ true) c.args.turnstile.now c.take-shared.result c.finish-goes_on.new.self c.give.new.pass c.take-shared.ensures.origin
      c.give.ensures.history (c.finish-goes_on.ensures.free goes);
}

pub returns-clause-orders : goal.returns-clause-orders
returns-clause-orders g c =
    let e = c.take-shared.ensures in
    let on = took c.args.turnstile.now c.args.hand c.args.pass.now c.take-shared.result c.take-shared.new.pass.seen c.requires.opened c.requires.idle e.origin e.history e.seen c.known.ensures.shared.inside in
    gave (λ (plan : Outline) (past : List Entry). orders plan c.args.hand past ≡ orders (outline c.args.turnstile.now.start.start) c.args.hand (seen_past c.args.turnstile.now c.args.pass.now))
    c.args.turnstile.now c.take-shared.result c.finish-goes_on.new.self c.give.new.pass e.origin c.give.ensures.history
    (c.finish-goes_on.ensures.orders ∙ took_asks c.args.turnstile.now c.args.hand _ c.take-shared.result e.origin on)
