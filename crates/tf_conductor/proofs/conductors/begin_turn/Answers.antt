use Rattle.std.proofs.Common.{arith, subst, ℕ}
use Rattle.tf_turnstile.specs.Numbered.{IsLater}
use Rattle.tf_conductor.proofs.CalledLemmas.{counted}
use Rattle.tf_conductor.proofs.PassLemmas.{gives_turn, longer_claims}
use Rattle.tf_conductor.proofs.SeenLemmas.{turned_next}
use Rattle.tf_conductor.proofs.conductors.begin_turn.Goals as goal

pub give-requires-clause-room : goal.give-requires-clause-room
give-requires-clause-room g c =
    let k = c.known-2.ensures in
    omega (arith, k.few, counted g.K.Desk.state c.claim-next.new.self.now k.shared)

pub give-requires-clause-turn : goal.give-requires-clause-turn
give-requires-clause-turn g c =
    gives_turn c.args.pass.now c.take-board.new.pass c.args.number c.take-board.result c.claim-next.new.self c.requires.idle.number_is c.take-board.ensures.pass c.claim-next.ensures.same
    (longer_claims g.K.Desk.state c.args.number c.args.owner.now c.args.skip.now c.take-board.result.now c.claim-next.new.self.now _ c.claim-next.ensures.claims)

pub returns-clause-next : goal.returns-clause-next
returns-clause-next g c =
    let later = subst (λ (n : ℕ). IsLater n c.args.pass.now.seen c.take-board.new.pass.seen) c.requires.idle.number_is c.take-board.ensures.seen in
    turned_next g.K.Desk.state c.args.turnstile.now c.args.number c.args.pass.now c.take-board.new.pass.seen c.give.new.pass c.take-board.result c.claim-next.new.self
    c.requires.opened.fresh later c.take-board.ensures.origin c.claim-next.ensures.same c.take-board.ensures.history c.give.ensures.history c.known.ensures.conducting c.known-2.ensures.conducting
    c.args.owner.now c.args.skip.now _ c.known-2.ensures.legal c.claim-next.ensures.claims
