use Rattle.std.proofs.Common.{◌∙◌, sym, ap, refl, arith, length, map}
use Rattle.std.proofs.lemmas.List.{length-map, map-id}
use Rattle.std.proofs.lemmas.Option.{slice_get_read}
use Rattle.std.proofs.lemmas.Iterator.Adapters.{YieldsList-from_vec}
use Rattle.std.proofs.lemmas.Iterator.Consumers.{YieldsList-turn, YieldsList-end}
use Rattle.tf_turnstile.specs.Seats.{IsOut, emptied}
use Rattle.tf_turnstile.proofs.BackLemmas.{none_taken_back, one_taken_back, with_back}
use Rattle.tf_turnstile.proofs.PassLemmas.{return_allowed}
use Rattle.tf_turnstile.proofs.passes.take_back.Goals as goal

pub loop-pass-init : goal.loop-pass-init
loop-pass-init g c = ((refl, refl), none_taken_back c.args.last.now.me c.requires.free.no_slot c.requires.whole.1)

-- the pass is the next in number
next : (g : _) (c : goal.After-into_seat g) → IsOut c.args.shared.now.table_id (length c.loop-pass.yielded) c.in-Some.pass
next g c =
    let all = c.args.passes.items in
    let gives = c.into_iter-pass-iterator.ensures.into_iter_gives in
    let t = YieldsList-turn (YieldsList-from_vec {s = c.into_iter-pass-iterator.result} all gives.0 (gives.1 ∙ c.args.passes.ok.0)) c.loop-pass.yielded c.loop-pass.pass-iterator c.loop-pass.yielded_by c.next.result c.next.new.self c.in-Some.pass c.in-Some.is c.next.ensures.steps in
    c.requires.passes (length c.loop-pass.yielded) c.in-Some.pass (slice_get_read all (length all) (length c.loop-pass.yielded) c.in-Some.pass refl t.0 t.1)

pub join_seat-requires : goal.join_seat-requires
join_seat-requires g c =
    let k = g.B.Kept in
    let i = c.loop-pass.invariant in
    let free = c.requires.free in
    let sized = c.requires.table.0 in
    let out = next g c in
    let view = c.into_seat.ensures.pass in
    let nothing = ap (λ p. p.taken) view ∙ out.nothing in
    let back = ap (λ m. m.0.back) i.1 in
    let whole = c.requires.whole.0 in
    let number = ap (λ m. m.0.number) i.1 in (
      i.0.0 ∙ c.requires.table.1,
      ap (λ p. p.table) view ∙ out.at,
      c.into_seat.ensures.hand.slots_are ∙ ap emptied nothing,
      omega (arith, sized),
      return_allowed k.origin k.first k.entries c.args.shared.now.key c.loop-pass.last.id c.loop-pass.last.me.0 c.into_seat.result.id c.into_seat.result.me.0 free.start out.start
          (ap (λ m. m.0.start) i.1 ∙ free.live) (ap (λ m. m.0.taken) i.1 ∙ free.nothing) (omega (arith, whole, number))
          (ap (λ p. p.start) view ∙ out.live) nothing (ap (λ p. p.number) view ∙ (out.number_is ∙ sym (ap length back ∙ length-map c.loop-pass.yielded (λ p. p.seen)))),
    )

pub loop-pass-preserved : goal.loop-pass-preserved
loop-pass-preserved g c = let i = c.loop-pass.invariant in let e = c.join_seat.ensures in
    ((e.0 ∙ i.0.0, e.1 ∙ i.0.1), one_taken_back c.args.last.now.me c.loop-pass.last.me c.join_seat.new.seat.me c.into_seat.result c.in-Some.pass c.loop-pass.yielded i.1 c.into_seat.ensures.pass e.2)

pub returns-clause-back : goal.returns-clause-back
returns-clause-back g c =
    let all = c.args.passes.items in
    let gives = c.into_iter-pass-iterator.ensures.into_iter_gives in
    let t = YieldsList-end (YieldsList-from_vec {s = c.into_iter-pass-iterator.result} all gives.0 (gives.1 ∙ c.args.passes.ok.0)) c.loop-pass.yielded c.loop-pass.pass-iterator c.loop-pass.yielded_by c.next.result c.next.new.self c.in-None.is c.next.ensures.steps in
    c.loop-pass.invariant.1 ∙ ap (λ l. with_back c.args.last.now.me (map (λ p. p.seen) l)) (sym (map-id c.loop-pass.yielded) ∙ t.0)
