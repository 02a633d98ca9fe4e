use Rattle.std.proofs.Common.{rules, ◌≡◌, ℕ, vec_len, sym, subst}
use Rattle.tf_model.specs.Plan.{Outline}
use Rattle.tf_book.specs.Book.{outline}
use Rattle.tf_engines.specs.Taking.{AllDone, AllGiven, AreSeated, IsRoundAt, TakesTurns}
use Rattle.tf_engines.proofs.TakingLemmas.{same_plan}
use Rattle.tf_engines.proofs.taking_turns.take_rounds.Goals as goal

pub take_round-requires-clause-seated : goal.take_round-requires-clause-seated
take_round-requires-clause-seated g c =
    let had = c.rounds.invariant in
    subst (λ (p : Outline). AreSeated p c.rounds.shared.now.past c.rounds.seats.items) (sym (same_plan c.rounds.shared c.args.shared.now had.origin)) had.seated

pub rounds-preserved : goal.rounds-preserved
rounds-preserved g c =
    let had = c.rounds.invariant in
    let e = c.in_default.ensures in
    let plan : Outline = outline c.args.shared.now.start in
    let same : outline c.rounds.shared.start ≡ plan = same_plan c.rounds.shared c.args.shared.now had.origin in
    let between = c.rounds.shared.now.past in
    let after = c.take_round.new.shared.now.past in
    let n : ℕ = vec_len c.args.hands.now in
    record {
      origin = search rules;
      hands = search rules;
      seats = search rules;
      turns = λ picks first at.
          subst (λ (p : Outline). IsRoundAt p picks n first after) same
          (subst (λ (k : ℕ). IsRoundAt (outline c.rounds.shared.start) picks k first after) had.hands
          (e.turns picks first
          (subst (λ (k : ℕ). IsRoundAt (outline c.rounds.shared.start) picks k first between) (sym had.hands)
          (subst (λ (p : Outline). IsRoundAt p picks n first between) (sym same) (had.turns picks first at)))));
      seated = subst (λ (p : Outline). AreSeated p after c.take_round.new.seats.items) same e.seated;
      given = λ told base given.
          subst (λ (p : Outline). AllGiven g.P.Performer.did p after told base c.take_round.new.hands.items c.take_round.new.seats.items) same
          (e.goes told base (subst (λ (p : Outline). AllGiven g.P.Performer.did p between told base c.rounds.hands.items c.rounds.seats.items) (sym same) (had.given told base given)));
    }

pub returns-in-Some-clause-taken : goal.returns-in-Some-clause-taken
returns-in-Some-clause-taken g c = λ picks first at.
    let had = c.rounds.invariant in
    let same : outline c.rounds.shared.start ≡ outline c.args.shared.now.start = same_plan c.rounds.shared c.args.shared.now had.origin in
    let between = c.rounds.shared.now.past in
    let after = c.take_round.new.shared.now.past in
    let n : ℕ = vec_len c.args.hands.now in
    subst (λ (p : Outline). TakesTurns p picks n first after) same
    (subst (λ (k : ℕ). TakesTurns (outline c.rounds.shared.start) picks k first after) had.hands
    (c.in-Some.ensures.taken picks first
    (subst (λ (k : ℕ). IsRoundAt (outline c.rounds.shared.start) picks k first between) (sym had.hands)
    (subst (λ (p : Outline). IsRoundAt p picks n first between) (sym same) (had.turns picks first at)))))

pub returns-in-Some-clause-done : goal.returns-in-Some-clause-done
returns-in-Some-clause-done g c = λ told base given.
    let had = c.rounds.invariant in
    let same = same_plan c.rounds.shared c.args.shared.now had.origin in
    subst (λ (p : Outline). AllDone g.P.Performer.did p c.take_round.new.shared.now.past c.in-Some.failed told base c.take_round.new.hands.items) same
    (c.in-Some.ensures.stops told base (subst (λ (p : Outline). AllGiven g.P.Performer.did p c.rounds.shared.now.past told base c.rounds.hands.items c.rounds.seats.items) (sym same) (had.given told base given)))
