use Rattle.std.proofs.Common.{rules, ◌≡◌, ◌+◌, ℕ, vec_len, sym, subst, arith}
use Rattle.tf_model.specs.Plan.{Outline}
use Rattle.tf_book.specs.Book.{outline}
use Rattle.tf_engines.specs.Taking.{AllDone, AllGiven, AreSeated, AreTurns, IsTurnBy}
use Rattle.tf_engines.proofs.TakingLemmas.{HasGrownOrWaits, round_grows, same_plan, waits_on}
use Rattle.tf_engines.proofs.TurnsLemmas.{round_last, round_more, round_over}
use Rattle.tf_engines.proofs.taking_turns.take_round.Goals as goal

pub turn_of-requires-clause-seated : goal.turn_of-requires-clause-seated
turn_of-requires-clause-seated g c =
    let had = c.loop-number.invariant in
    subst (λ (p : Outline). AreSeated p c.loop-number.shared.now.past c.loop-number.seats.items) (sym (same_plan c.loop-number.shared c.args.shared.now had.origin)) had.seated

pub loop-number-preserved : goal.loop-number-preserved
loop-number-preserved g c =
    let had = c.loop-number.invariant in
    let e = c.in_default.ensures in
    let plan : Outline = outline c.args.shared.now.start in
    let same : outline c.loop-number.shared.start ≡ plan = same_plan c.loop-number.shared c.args.shared.now had.origin in
    let past = c.args.shared.now.now.past in
    let between = c.loop-number.shared.now.past in
    let after = c.turn_of.new.shared.now.past in
    let this : IsTurnBy plan c.loop-number.number between after = subst (λ (p : Outline). IsTurnBy p c.loop-number.number between after) same e.turn in
    record {
      origin = search rules;
      hands = search rules;
      seats = search rules;
      turns = λ picks first r. round_more plan picks (vec_len c.args.hands.now) c.loop-number.number first past between after r (omega arith) (had.turns picks first r) this;
      grows = waits_on plan c.loop-number.number past between after this had.grows;
      seated = subst (λ (p : Outline). AreSeated p after c.turn_of.new.seats.items) same e.seated;
      given = λ told base given.
          subst (λ (p : Outline). AllGiven g.P.Performer.did p after told base c.turn_of.new.hands.items c.turn_of.new.seats.items) same
          (e.goes told base (subst (λ (p : Outline). AllGiven g.P.Performer.did p between told base c.loop-number.hands.items c.loop-number.seats.items) (sym same) (had.given told base given)));
    }

pub returns-in-Some-clause-taken : goal.returns-in-Some-clause-taken
returns-in-Some-clause-taken g c = λ picks first r.
    round_last (outline c.args.shared.now.start) picks (vec_len c.args.hands.now) c.loop-number.number first c.args.shared.now.now.past c.loop-number.shared.now.past c.turn_of.new.shared.now.past r (omega arith)
    (c.loop-number.invariant.turns picks first r) c.turn_of.ensures.added

pub returns-in-Some-clause-stops : goal.returns-in-Some-clause-stops
returns-in-Some-clause-stops g c = λ told base given.
    let had = c.loop-number.invariant in
    let same = same_plan c.loop-number.shared c.args.shared.now had.origin in
    subst (λ (p : Outline). AllDone g.P.Performer.did p c.turn_of.new.shared.now.past c.in-Some.failed told base c.turn_of.new.hands.items) same
    (c.in-Some.ensures.stops told base (subst (λ (p : Outline). AllGiven g.P.Performer.did p c.loop-number.shared.now.past told base c.loop-number.hands.items c.loop-number.seats.items) (sym same) (had.given told base given)))

pub returns-clause-turns : goal.returns-clause-turns
returns-clause-turns g c = λ picks first r.
    let plan : Outline = outline c.args.shared.now.start in
    let n : ℕ = vec_len c.args.hands.now in
    let last = c.loop-number.shared.now.past in
    round_over plan picks n first c.args.shared.now.now.past last r (subst (λ (k : ℕ). AreTurns plan picks n (r.turns + k) first last) (omega arith) (c.loop-number.invariant.turns picks first r))

pub returns-clause-grows : goal.returns-clause-grows
returns-clause-grows g c =
    let had = c.loop-number.invariant in
    let plan : Outline = outline c.args.shared.now.start in
    let past = c.args.shared.now.now.past in
    let last = c.loop-number.shared.now.past in
    round_grows plan past last c.loop-number.seats.items (omega arith) had.seated (subst (λ (k : ℕ). HasGrownOrWaits plan k past last) (omega arith) had.grows)
