use Rattle.std.proofs.Common.{ℕ, slice_index_or, sym, ◌∙◌, subst, arith}
use Rattle.tf_hands.specs.Hands.{orders}
use Rattle.tf_model.specs.Plan.{Outline}
use Rattle.tf_model.specs.Steps.{LegalPast}
use Rattle.tf_book.specs.Book.{outline}
use Rattle.tf_engines.specs.Taking.{HasSeat, HasGiven}
use Rattle.tf_engines.proofs.TakingLemmas.{same_plan, seated_on, given_on, done_last, done_failed}
use Rattle.tf_engines.proofs.taking_turns.turn_of.Goals as goal

pub turn_at-step-requires-clause-has : goal.turn_at-step-requires-clause-has
turn_at-step-requires-clause-has g c =
    subst (HasSeat (outline c.args.shared.now.start) c.args.shared.now.now.past c.args.number) (sym c.take_order-order.ensures.value) (c.requires.seated c.args.number)

pub returns-in-Goes-clause-turn : goal.returns-in-Goes-clause-turn
returns-in-Goes-clause-turn g c = record {
  added = c.turn_at-step.ensures.added;
  had = c.take_order-order.result;
  before = subst (HasSeat (outline c.args.shared.now.start) c.args.shared.now.now.past c.args.number) (sym c.take_order-order.ensures.value) (c.requires.seated c.args.number);
  next = c.in-Goes.next;
  now = c.in-Goes.ensures.has;
  moved = c.in-Goes.ensures.moved;
}

pub returns-in-Goes-clause-seated : goal.returns-in-Goes-clause-seated
returns-in-Goes-clause-seated g c =
    let e = c.turn_at-step.ensures in
    let after = c.turn_at-step.new.shared.now.past in
    let legal : LegalPast (outline c.args.shared.now.start) after = subst (λ (p : Outline). LegalPast p after) (same_plan c.turn_at-step.new.shared c.args.shared.now e.origin) c.known.ensures.legal in
    seated_on (outline c.args.shared.now.start) c.args.shared.now.now.past after c.args.number legal e.added c.args.seats.now.items c.keep_order.new.seats.items c.in-Goes.next c.keep_order.ensures.value
    (λ i apart. c.keep_order.ensures.others i apart ∙ c.take_order-order.ensures.others i apart) c.requires.seated c.in-Goes.ensures.has

pub returns-in-Goes-clause-goes : goal.returns-in-Goes-clause-goes
returns-in-Goes-clause-goes g c = λ told base given.
    let e = c.turn_at-step.ensures in
    let n : ℕ = c.args.number in
    let plan : Outline = outline c.args.shared.now.start in
    let past = c.args.shared.now.now.past in
    let after = c.turn_at-step.new.shared.now.past in
    let legal : LegalPast plan after = subst (λ (p : Outline). LegalPast p after) (same_plan c.turn_at-step.new.shared c.args.shared.now e.origin) c.known.ensures.legal in
    given_on plan past after n legal e.added g.P.Performer.did told base c.args.hands.now.items c.turn_at-step.new.hands.items c.args.seats.now.items (omega (arith, e.count)) e.others given
    c.keep_order.new.seats.items c.in-Goes.next c.keep_order.ensures.value (λ i apart. c.keep_order.ensures.others i apart ∙ c.take_order-order.ensures.others i apart)
    (λ d. c.in-Goes.ensures.orders (told n) (base n) d
    (subst (HasGiven (told n) (base n) (g.P.Performer.did (slice_index_or c.args.hands.now.items n d)) (orders plan n past)) (sym c.take_order-order.ensures.value) (given n d (omega (arith, c.requires.number)))))

pub returns-in-Stop-clause-stops : goal.returns-in-Stop-clause-stops
returns-in-Stop-clause-stops g c = λ told base given.
    let e = c.turn_at-step.ensures in
    let n : ℕ = c.args.number in
    let plan : Outline = outline c.args.shared.now.start in
    let past = c.args.shared.now.now.past in
    let after = c.turn_at-step.new.shared.now.past in
    let legal : LegalPast plan after = subst (λ (p : Outline). LegalPast p after) (same_plan c.turn_at-step.new.shared c.args.shared.now e.origin) c.known.ensures.legal in
    done_last plan past after n legal e.added g.P.Performer.did told base c.args.hands.now.items c.turn_at-step.new.hands.items c.args.seats.now.items (omega (arith, e.count)) e.others given c.in-Stop.ensures.has c.requires.seated
    (λ d. c.in-Stop.ensures.orders (told n) (base n) d
    (subst (HasGiven (told n) (base n) (g.P.Performer.did (slice_index_or c.args.hands.now.items n d)) (orders plan n past)) (sym c.take_order-order.ensures.value) (given n d (omega (arith, c.requires.number)))))

pub returns-in-Fail-clause-stops : goal.returns-in-Fail-clause-stops
returns-in-Fail-clause-stops g c = λ told base given.
    let e = c.turn_at-step.ensures in
    let n : ℕ = c.args.number in
    let plan : Outline = outline c.args.shared.now.start in
    let past = c.args.shared.now.now.past in
    let after = c.turn_at-step.new.shared.now.past in
    let legal : LegalPast plan after = subst (λ (p : Outline). LegalPast p after) (same_plan c.turn_at-step.new.shared c.args.shared.now e.origin) c.known.ensures.legal in
    done_failed plan past after n legal e.added g.P.Performer.did told base c.args.hands.now.items c.turn_at-step.new.hands.items c.args.seats.now.items (omega (arith, e.count)) e.others given
    (λ d. c.in-Fail.ensures.orders (told n) (base n) d
    (subst (HasGiven (told n) (base n) (g.P.Performer.did (slice_index_or c.args.hands.now.items n d)) (orders plan n past)) (sym c.take_order-order.ensures.value) (given n d (omega (arith, c.requires.number)))))
