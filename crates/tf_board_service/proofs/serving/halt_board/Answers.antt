use Rattle.std.proofs.Common.{arith, subst, ℕ}
use Rattle.tf_turnstile.specs.Numbered.{IsLater}
use Rattle.tf_board_service.proofs.PassLemmas.{counted, gives_turn, longer_none, turned_none}
use Rattle.tf_board_service.proofs.serving.halt_board.Goals as goal

pub give-requires-clause-room : goal.give-requires-clause-room
give-requires-clause-room g c =
    let k = c.known-2.ensures in
    omega (arith, k.few, counted g.K.Desk.state c.halt.new.self.now k.shared)

pub give-requires-clause-turn : goal.give-requires-clause-turn
give-requires-clause-turn g c =
    gives_turn c.args.pass.now c.take-board.new.pass c.args.number c.take-board.result c.halt.new.self c.requires.idle.number_is c.take-board.ensures.pass c.halt.ensures.same
    (longer_none c.args.number c.take-board.result.now c.halt.new.self.now c.halt.ensures.none.made)

pub returns-clause-waited : goal.returns-clause-waited
returns-clause-waited g c =
    let later = subst (λ (n : ℕ). IsLater n c.args.pass.now.seen c.take-board.new.pass.seen) c.requires.idle.number_is c.take-board.ensures.seen in
    turned_none g.K.Desk.state c.args.turnstile.now c.args.number c.args.pass.now c.take-board.new.pass.seen c.give.new.pass c.take-board.result c.halt.new.self
    c.requires.fresh later c.take-board.ensures.origin c.halt.ensures.same c.take-board.ensures.history c.give.ensures.history c.known.ensures.serving c.known-2.ensures.serving
    c.halt.ensures.none
