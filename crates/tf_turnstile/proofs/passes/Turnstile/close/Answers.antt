use Rattle.std.proofs.Common.{◌≡◌, ◌∙◌, Option, sym, ap, subst, refl, arith, length, Some, IsSome}
use Rattle.std.proofs.lemmas.List.{length-map}
use Rattle.atomic_table.specs.Seated.{TableId}
use Rattle.tf_turnstile.specs.Seats.{IsOut, emptied}
use Rattle.tf_turnstile.proofs.BackLemmas.{Ends, split_all, all_last, ends_with, has_grown}
use Rattle.tf_turnstile.proofs.passes.Turnstile.close.Goals as goal

pub take_back-requires-clause-table : goal.take_back-requires-clause-table
take_back-requires-clause-table g c =
    let split = split_all c.args.self c.args.passes.items c.pop.new.self.items c.in-Some.last c.in-Some.ensures.items c.requires in
    let table = ap (λ p. p.table) c.into_seat-seat.ensures.pass ∙ split.mine.table in
    ((c.self.invariant.0, c.self.invariant.1), table ∙ sym (ap (λ t. t.table) c.self.view_is))

pub take_back-requires-clause-free : goal.take_back-requires-clause-free
take_back-requires-clause-free g c =
    let split = split_all c.args.self c.args.passes.items c.pop.new.self.items c.in-Some.last c.in-Some.ensures.items c.requires in
    let view = c.into_seat-seat.ensures.pass in
    let nothing = ap (λ p. p.taken) view ∙ split.nothing in record {
      start = c.args.self.start;
      live = ap (λ p. p.start) view ∙ split.mine.start;
      nothing = nothing;
      no_slot = c.into_seat-seat.ensures.hand.slots_are ∙ ap emptied nothing;
    }

pub take_back-requires-clause-whole : goal.take_back-requires-clause-whole
take_back-requires-clause-whole g c =
    let split = split_all c.args.self c.args.passes.items c.pop.new.self.items c.in-Some.last c.in-Some.ensures.items c.requires in
    let number = ap (λ p. p.number) c.into_seat-seat.ensures.pass ∙ split.number in
    let count = split.count in
    let passes = ap (λ t. t.passes) c.self.view_is in
    (omega (arith, number, count, passes), c.into_seat-seat.ensures.hand.none_back)

pub take_back-requires-clause-passes : goal.take_back-requires-clause-passes
take_back-requires-clause-passes g c i pass e =
    let split = split_all c.args.self c.args.passes.items c.pop.new.self.items c.in-Some.last c.in-Some.ensures.items c.requires in
    let P : TableId → Type 0 = λ t. IsOut t i pass in
    subst P (sym (ap (λ t. t.table) c.self.view_is)) (split.others i pass e)

pub close_with-closed-requires : goal.close_with-closed-requires
close_with-closed-requires g c =
    let split = split_all c.args.self c.args.passes.items c.pop.new.self.items c.in-Some.last c.in-Some.ensures.items c.requires in
    let table = ap (λ p. p.table) c.into_seat-seat.ensures.pass ∙ split.mine.table in
    c.take_back.ensures.same.0 ∙ (table ∙ sym (ap (λ t. t.table) c.self.view_is))

-- the value is in the slot
pub unwrap-requires : goal.unwrap-requires
unwrap-requires g c =
    let k = g.B.Kept in
    let split = split_all c.args.self c.args.passes.items c.pop.new.self.items c.in-Some.last c.in-Some.ensures.items c.requires in
    let view = c.into_seat-seat.ensures.pass in
    let passes = ap (λ t. t.passes) c.self.view_is in
    let count = split.count in
    let back = c.take_back.ensures.back in
    let number = ap (λ m. m.0.number) back ∙ (ap (λ p. p.number) view ∙ split.number) in
    let ends = ends_with k.origin k.first k.entries c.self.inside.table.shared.key c.take_back.new.last.id c.take_back.new.last.me.0 c.args.self.start _ _ c.take-slot.result
    (ap (λ m. m.0.start) back ∙ (ap (λ p. p.start) view ∙ split.mine.start)) (ap (λ m. m.0.taken) back ∙ (ap (λ p. p.taken) view ∙ split.nothing)) (omega (arith, number, count, passes))
    (ap (λ m. length m.0.back) back ∙ (length-map c.pop.new.self.items (λ p. p.seen) ∙ sym number)) c.close_with-closed.ensures.values.2 c.take-slot.ensures.value in
    let P = λ (o : Option g.row.B.Denot). IsSome o in
    subst P (sym ends.is) refl

-- how the value is in the end
ends : (g : _) (c : goal.After-unwrap g) → Ends g.B.Kept.origin g.B.Kept.first g.B.Kept.entries c.self.inside.table.shared.key c.take_back.new.last.me.0 c.take-slot.result
ends g c =
    let k = g.B.Kept in
    let split = split_all c.args.self c.args.passes.items c.pop.new.self.items c.in-Some.last c.in-Some.ensures.items c.requires in
    let view = c.into_seat-seat.ensures.pass in
    let passes = ap (λ t. t.passes) c.self.view_is in
    let count = split.count in
    let back = c.take_back.ensures.back in
    let number = ap (λ m. m.0.number) back ∙ (ap (λ p. p.number) view ∙ split.number) in
    ends_with k.origin k.first k.entries c.self.inside.table.shared.key c.take_back.new.last.id c.take_back.new.last.me.0 c.args.self.start _ _ c.take-slot.result
    (ap (λ m. m.0.start) back ∙ (ap (λ p. p.start) view ∙ split.mine.start)) (ap (λ m. m.0.taken) back ∙ (ap (λ p. p.taken) view ∙ split.nothing)) (omega (arith, number, count, passes))
    (ap (λ m. length m.0.back) back ∙ (length-map c.pop.new.self.items (λ p. p.seen) ∙ sym number)) c.close_with-closed.ensures.values.2 c.take-slot.ensures.value

pub returns-clause-origin : goal.returns-clause-origin
returns-clause-origin g c =
    let k = g.B.Kept in
    let end = ends g c in
    let same : Some end.now ≡ Some c.unwrap.result = sym end.is ∙ c.unwrap.ensures in
    let now_is : c.unwrap.result ≡ end.now = cc in
    ap k.origin now_is ∙ (end.same ∙ ap (λ t. k.origin t.start) c.self.view_is)

pub returns-clause-history : goal.returns-clause-history
returns-clause-history g c =
    let k = g.B.Kept in
    let end = ends g c in
    let same : Some end.now ≡ Some c.unwrap.result = sym end.is ∙ c.unwrap.ensures in
    let now_is : c.unwrap.result ≡ end.now = cc in
    let split = split_all c.args.self c.args.passes.items c.pop.new.self.items c.in-Some.last c.in-Some.ensures.items c.requires in
    let last = all_last k.origin k.first k.entries c.self.inside.table.shared.key c.args.self c.args.passes.items c.pop.new.self.items c.in-Some.last c.into_seat-seat.result c.take_back.new.last.me c.take-slot.result
    (ap (λ t. t.passes) c.self.view_is) c.in-Some.ensures.items split c.into_seat-seat.ensures.pass c.take_back.ensures.back end in
    has_grown k.origin k.first k.entries c.self.inside.table.shared.key c.args.self c.args.passes.items c.take_back.new.last.me.0 c.take-slot.result c.unwrap.result end now_is (ap (λ t. t.start) c.self.view_is) last
