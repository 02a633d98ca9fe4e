use Rattle.std.proofs.Common.{arith, refl, subst, ℕ}
use Rattle.tf_turnstile.specs.Numbered.{IsLater}
use Rattle.tf_conductor.proofs.CalledLemmas.{counted}
use Rattle.tf_conductor.proofs.PassLemmas.{gives_turn, longer_after, same_after}
use Rattle.tf_conductor.proofs.SeenLemmas.{held_names, turned_after}
use Rattle.tf_conductor.proofs.conductors.end_turn.Goals as goal

pub give-requires-clause-room : goal.give-requires-clause-room
give-requires-clause-room g c =
    let k = c.known-2.ensures in
    omega (arith, k.few, counted g.K.Desk.state c.end_and_claim-next.new.self.now k.shared)

pub give-requires-clause-turn : goal.give-requires-clause-turn
give-requires-clause-turn g c =
    gives_turn c.args.pass.now c.take-board.new.pass c.args.number c.take-board.result c.end_and_claim-next.new.self c.requires.idle.number_is c.take-board.ensures.pass
    (same_after g.K.Desk.state c.args.number c.args.owner.now c.args.claim.now.id c.args.ran c.args.skip.now c.take-board.result c.end_and_claim-next.new.self _ c.end_and_claim-next.ensures)
    (longer_after g.K.Desk.state c.args.number c.args.owner.now c.args.claim.now.id c.args.ran c.args.skip.now c.take-board.result c.end_and_claim-next.new.self _ c.end_and_claim-next.ensures)

pub returns-clause-next : goal.returns-clause-next
returns-clause-next g c =
    let later = subst (λ (n : ℕ). IsLater n c.args.pass.now.seen c.take-board.new.pass.seen) c.requires.idle.number_is c.take-board.ensures.seen in
    let names = held_names g.K.Desk.state c.args.turnstile.now c.args.number c.args.pass.now c.take-board.new.pass.seen c.take-board.new.pass c.take-board.result c.take-board.result
    c.requires.opened.fresh later c.take-board.ensures.origin refl c.take-board.ensures.history c.take-board.ensures.history c.known.ensures.conducting c.known.ensures.conducting
    c.args.owner.now c.args.claim.now.job c.args.claim.now.id c.requires.opened.has c.requires.opened.apart c.requires.has c.known.ensures.legal in
    turned_after g.K.Desk.state c.args.turnstile.now c.args.number c.args.pass.now c.take-board.new.pass.seen c.give.new.pass c.take-board.result c.end_and_claim-next.new.self
    c.requires.opened.fresh later c.take-board.ensures.origin c.take-board.ensures.history c.give.ensures.history c.known.ensures.conducting c.known-2.ensures.conducting
    c.args.owner.now c.args.skip.now c.args.claim.now c.args.ran _ c.known-2.ensures.legal names c.end_and_claim-next.ensures
