use Rattle.std.proofs.Common.{ap, ◌∙◌, sym, arith, length}
use Rattle.tf_turnstile.proofs.DealLemmas.{none_dealt, seat_of_new}
use Rattle.tf_turnstile.proofs.PassLemmas.{deal_allowed}
use Rattle.tf_turnstile.proofs.passes.Turnstile.deal.Goals as goal

pub loop-number-init : goal.loop-number-init
loop-number-init g c = let room = c.requires.room in (none_dealt c.args.self.now c.args.passes.items c.args.seat room.0 c.requires.turnstile.0 c.requires.turnstile.1, omega (arith, ap length room.0), room.1)

pub split_seat-next-requires : goal.split_seat-next-requires
split_seat-next-requires g c =
    let k = g.B.Kept in
    let i = c.loop-number.invariant in
    let me = i.0.me in
    let sized = c.self.invariant in
    let passes = ap (λ t. t.passes) c.self.view_is in
    let count = c.requires.room.2 in
    let number = ap (λ m. m.0.number) me in (
      i.0.at ∙ sym (ap (λ t. t.table) c.self.view_is),
      omega (arith, sized.0),
      deal_allowed k.origin k.first k.entries c.self.inside.table.shared.key c.loop-number.seat.id c.loop-number.seat.me.0 c.args.self.now.start
          (ap (λ m. m.0.start) me) (ap (λ m. m.0.taken) me) (ap (λ m. m.0.is_last) me) (ap (λ m. m.0.seen) me) (ap (λ m. m.0.back) me) (omega (arith, passes, count, number, i.1, c.loop-number-test.true)),
    )

pub invariant_of-push_reserved : goal.invariant_of-push_reserved
invariant_of-push_reserved g c =
    let k = g.B.Kept in
    let i = c.loop-number.invariant in
    let me = c.split_seat-next.ensures.2 in
    seat_of_new k.origin k.entries c.split_seat-next.new.seat.me.0 c.split_seat-next.new.seat.me.1 (ap (λ m. m.0.back) me ∙ ap (λ m. m.0.back) i.0.me) (ap (λ m. m.0.taken) me ∙ ap (λ m. m.0.taken) i.0.me) (ap (λ m. m.1) me ∙ ap (λ m. m.1) i.0.me)
