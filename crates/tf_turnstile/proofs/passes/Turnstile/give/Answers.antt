use Rattle.std.proofs.Common.{ap, sym, ◌∙◌, [], None, arith}
use mathlib.Core.Option.{none}
use Rattle.atomic_table.specs.Table.{step}
use Rattle.tf_turnstile.specs.Seats.{pass_of}
use Rattle.tf_turnstile.proofs.StepLemmas.{count_allowed, home_allowed}
use Rattle.tf_turnstile.proofs.TurnLemmas.{Gave, gave_is, seat_after_give, filled_is, counted_is, longer_of, longer_back, pass_after}
use Rattle.tf_turnstile.proofs.passes.Turnstile.give.Goals as goal

pub store-requires : goal.store-requires
store-requires g c =
    let k = g.B.Kept in
    let mine = c.requires.mine in
    let sized = c.self.invariant.0 in
    let e = c.exchange-slot.ensures in
    let turn = c.requires.turn in
    let at = ap (λ p. p.table) c.pass.view_is ∙ (mine.table ∙ sym (ap (λ t. t.table) c.self.view_is)) in
    let live = ap (λ p. p.start) c.pass.view_is ∙ mine.start in
    let held = ap (λ p. p.taken) c.pass.view_is ∙ turn.has in
    let filled = filled_is k.origin k.first k.entries c.pass.inside.seat.me c.exchange-slot.new.seat.me turn.taken c.args.kept held c.pass.invariant e.3 in (
      e.0 ∙ at,
      omega (arith, sized),
      count_allowed k.origin k.first k.entries c.self.inside.table.shared.key c.self.inside.table.shared.table_id.slots c.exchange-slot.new.seat.id c.exchange-slot.new.seat.me
          (step c.self.inside.table.shared.table_id.slots 1 c.count-count.result 0 none) c.args.self.now.start turn.taken c.args.kept c.count-count.result
          (ap (λ m. m.0.start) filled ∙ live) (ap (λ m. m.0.taken) filled ∙ held) (ap (λ m. m.1) filled) turn.same
          (longer_back c.pass.inside.seat c.args.pass.now c.exchange-slot.new.seat.me.0.number (k.entries turn.taken) (k.entries c.args.kept) c.pass.view_is (ap (λ m. m.0.number) filled) turn.longer) c.count-count.ensures,
    )

pub swap-turn-requires : goal.swap-turn-requires
swap-turn-requires g c =
    let k = g.B.Kept in
    let mine = c.requires.mine in
    let sized = c.self.invariant in
    let e = c.exchange-slot.ensures in
    let turn = c.requires.turn in
    let at = ap (λ p. p.table) c.pass.view_is ∙ (mine.table ∙ sym (ap (λ t. t.table) c.self.view_is)) in
    let live = ap (λ p. p.start) c.pass.view_is ∙ mine.start in
    let held = ap (λ p. p.taken) c.pass.view_is ∙ turn.has in
    let filled = filled_is k.origin k.first k.entries c.pass.inside.seat.me c.exchange-slot.new.seat.me turn.taken c.args.kept held c.pass.invariant e.3 in
    let counted = counted_is k.origin k.first k.entries c.pass.inside.seat.me c.exchange-slot.new.seat.me c.store.new.seat.me c.args.self.now.start c.args.kept
    (step c.self.inside.table.shared.table_id.slots 1 c.count-count.result 0 none) c.count-count.result live filled c.store.ensures.2 in (
      c.store.ensures.0 ∙ (e.0 ∙ at),
      omega (arith, sized.0),
      home_allowed k.origin k.first k.entries c.self.inside.table.shared.key c.self.inside.table.shared.table_id.slots c.store.new.seat.id c.store.new.seat.me
          (step c.self.inside.table.shared.table_id.slots 0 0 0 none) c.args.self.now.start c.args.kept sized.1
          (ap (λ m. m.0.start) counted.2 ∙ live) (ap (λ m. m.0.taken) counted.2) (ap (λ m. m.1) counted.2),
    )

-- the turn that the seat has made
turn : (g : _) (c : goal.After-ring g) → Gave g.B.Kept.origin g.B.Kept.first g.B.Kept.entries c.args.self.now.start c.args.kept c.pass.inside.seat.me c.ring.new.seat.me
turn g c =
    let k = g.B.Kept in
    let e = c.exchange-slot.ensures in
    let turn = c.requires.turn in
    gave_is k.origin k.first k.entries c.pass.inside.seat.me c.exchange-slot.new.seat.me c.store.new.seat.me c.ring.new.seat.me c.args.self.now.start turn.taken c.args.kept
    (step c.self.inside.table.shared.table_id.slots 1 c.count-count.result 0 none) c.count-count.result (ap (λ p. p.start) c.pass.view_is ∙ c.requires.mine.start) (ap (λ p. p.taken) c.pass.view_is ∙ turn.has) c.pass.invariant
    (longer_back c.pass.inside.seat c.args.pass.now c.pass.inside.seat.me.0.number (k.entries turn.taken) (k.entries c.args.kept) c.pass.view_is (λ _. c.pass.inside.seat.me.0.number) turn.longer)
    e.3 c.store.ensures.2 (c.ring.ensures.1 ∙ c.swap-turn.ensures.2)

pub invariant_of-pass : goal.invariant_of-pass
invariant_of-pass g c = let k = g.B.Kept in seat_after_give k.origin k.first k.entries c.args.self.now.start c.args.kept c.pass.inside.seat.me c.ring.new.seat.me c.pass.invariant (turn g c)

pub returns-clause-history : goal.returns-clause-history
returns-clause-history g c = (turn g c).history

pub returns-clause-seen : goal.returns-clause-seen
returns-clause-seen g c = longer_of (pass_of c.pass.inside.seat) c.args.pass.now c.ring.new.seat.me.0.seen c.pass.view_is (turn g c).longer

pub returns-clause-pass : goal.returns-clause-pass
returns-clause-pass g c =
    pass_after c.pass.inside.seat c.ring.new.seat c.args.pass.now c.ring.new.seat.me.0.seen None [] c.pass.view_is
    (c.ring.ensures.0.0 ∙ (c.swap-turn.ensures.0 ∙ (c.store.ensures.0 ∙ c.exchange-slot.ensures.0))) (turn g c).after
