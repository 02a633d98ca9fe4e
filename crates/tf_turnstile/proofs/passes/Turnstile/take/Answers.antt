use Rattle.std.proofs.Common.{ap, sym, ◌∙◌, ◌∷◌, [], Some, None, arith}
use mathlib.Core.Option.{none}
use Rattle.atomic_table.specs.Table.{step, rest}
use Rattle.tf_turnstile.specs.Seats.{pass_of}
use Rattle.tf_turnstile.proofs.NumberedLemmas.{own-later}
use Rattle.tf_turnstile.proofs.StepLemmas.{look_allowed}
use Rattle.tf_turnstile.proofs.TurnLemmas.{Taken, taken_is, seat_after_take, later_of, pass_after}
use Rattle.tf_turnstile.proofs.passes.Turnstile.take.Goals as goal

pub load-pass-inside-requires : goal.load-pass-inside-requires
load-pass-inside-requires g c =
    let k = g.B.Kept in
    let mine = c.requires.mine in
    let sized = c.self.invariant.0 in
    let same = c.take_out.ensures.same in
    let out = c.take_out.ensures.taken in
    let e = c.exchange-slot.ensures in
    let at = ap (λ p. p.table) c.pass.view_is ∙ (mine.table ∙ sym (ap (λ t. t.table) c.self.view_is)) in
    let live = ap (λ p. p.start) c.pass.view_is ∙ mine.start in (
      e.0 ∙ (same.0 ∙ at),
      omega (arith, sized),
      look_allowed k.origin k.first k.entries c.self.inside.table.shared.key c.self.inside.table.shared.table_id.slots c.exchange-slot.new.seat.id c.exchange-slot.new.seat.me
          (step c.self.inside.table.shared.table_id.slots 1 0 0 none) c.args.self.now.start out.0
          (ap (λ m. m.0.start) (e.3 ∙ ap (λ m. (m.0, (0, None) ∷ rest m.1)) out.1) ∙ live) (ap (λ m. m.0.taken) (e.3 ∙ ap (λ m. (m.0, (0, None) ∷ rest m.1)) out.1)),
    )

-- the turn that the seat has made
turn : (g : _) (c : goal.After-unwrap g) → Taken g.B.Kept.origin g.B.Kept.first g.B.Kept.entries c.args.self.now.start c.unwrap.result c.pass.inside.seat.me c.load-pass-inside.new.seat.me
turn g c =
    let k = g.B.Kept in
    let e = c.exchange-slot.ensures in
    taken_is k.origin k.first k.entries c.pass.inside.seat.me c.take_out.new.seat.me c.exchange-slot.new.seat.me c.load-pass-inside.new.seat.me c.args.self.now.start c.take_out.ensures.taken.0 c.unwrap.result c.exchange-slot.result
    (step c.self.inside.table.shared.table_id.slots 1 0 0 none) c.load-pass-inside.result (ap (λ p. p.start) c.pass.view_is ∙ c.requires.mine.start) c.take_out.ensures.taken.1 e.2 e.3 c.load-pass-inside.ensures.2 c.unwrap.ensures

pub invariant_of-pass : goal.invariant_of-pass
invariant_of-pass g c = let k = g.B.Kept in seat_after_take k.origin k.first k.entries c.args.self.now.start c.unwrap.result c.pass.inside.seat.me c.load-pass-inside.new.seat.me (ap (λ p. p.start) c.pass.view_is ∙ c.requires.mine.start) c.pass.invariant (turn g c)

pub returns-clause-origin : goal.returns-clause-origin
returns-clause-origin g c = (turn g c).same

pub returns-clause-history : goal.returns-clause-history
returns-clause-history g c = (turn g c).history

pub returns-clause-seen : goal.returns-clause-seen
returns-clause-seen g c = later_of (pass_of c.pass.inside.seat) c.args.pass.now c.load-pass-inside.new.seat.me.0.seen c.pass.view_is (turn g c).later

pub returns-clause-own : goal.returns-clause-own
returns-clause-own g c = own-later c.args.pass.now.number c.args.pass.now.seen c.load-pass-inside.new.seat.me.0.seen (later_of (pass_of c.pass.inside.seat) c.args.pass.now c.load-pass-inside.new.seat.me.0.seen c.pass.view_is (turn g c).later)

pub returns-clause-pass : goal.returns-clause-pass
returns-clause-pass g c =
    pass_after c.pass.inside.seat c.load-pass-inside.new.seat c.args.pass.now c.load-pass-inside.new.seat.me.0.seen (Some c.unwrap.result) ((0, None) ∷ []) c.pass.view_is
    (c.load-pass-inside.ensures.0 ∙ (c.exchange-slot.ensures.0 ∙ c.take_out.ensures.same.0)) (turn g c).after
