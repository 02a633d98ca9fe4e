use Rattle.std.proofs.Common.{arith, subst, ℕ}
use Rattle.tf_turnstile.specs.Numbered.{IsLater}
use Rattle.tf_board_service.proofs.PassLemmas.{counted, gives_turn, longer_answers, turned_replied, turned_stopped}
use Rattle.tf_board_service.proofs.serving.take_turn.Goals as goal

pub give-requires-clause-room : goal.give-requires-clause-room
give-requires-clause-room g c =
    let k = c.known-2.ensures in
    omega (arith, k.few, counted g.K.Desk.state c.answer-reply.new.self.now k.shared)

pub give-requires-clause-turn : goal.give-requires-clause-turn
give-requires-clause-turn g c =
    gives_turn c.args.pass.now c.take-board.new.pass c.args.number c.take-board.result c.answer-reply.new.self c.requires.idle.number_is c.take-board.ensures.pass c.answer-reply.ensures.same
    (longer_answers g.K.Desk.state c.args.number c.args.request c.take-board.result.now c.answer-reply.new.self.now c.answer-reply.result c.answer-reply.ensures.answers)

pub returns-in-Some-clause-turn : goal.returns-in-Some-clause-turn
returns-in-Some-clause-turn g c =
    let later = subst (λ (n : ℕ). IsLater n c.args.pass.now.seen c.take-board.new.pass.seen) c.requires.idle.number_is c.take-board.ensures.seen in
    turned_replied g.K.Desk.state c.args.turnstile.now c.args.number c.args.pass.now c.take-board.new.pass.seen c.give.new.pass c.take-board.result c.answer-reply.new.self
    c.requires.fresh later c.take-board.ensures.origin c.answer-reply.ensures.same c.take-board.ensures.history c.give.ensures.history c.known.ensures.serving c.known-2.ensures.serving
    c.args.request c.point-point.result c.in-Some.reply c.point-point.ensures c.in-Some.ensures.answers

pub returns-in-None-clause-turn : goal.returns-in-None-clause-turn
returns-in-None-clause-turn g c =
    let later = subst (λ (n : ℕ). IsLater n c.args.pass.now.seen c.take-board.new.pass.seen) c.requires.idle.number_is c.take-board.ensures.seen in
    turned_stopped g.K.Desk.state c.args.turnstile.now c.args.number c.args.pass.now c.take-board.new.pass.seen c.give.new.pass c.take-board.result c.answer-reply.new.self
    c.requires.fresh later c.take-board.ensures.origin c.answer-reply.ensures.same c.take-board.ensures.history c.give.ensures.history c.known.ensures.serving c.known-2.ensures.serving
    c.args.request c.in-None.ensures.answers
