use Rattle.std.proofs.Common.{rules, ◌≡◌, ◌%◌, ℕ, vec_len, slice_index_or, sym, ap, subst}
use Rattle.tf_model.specs.Plan.{Outline}
use Rattle.tf_book.specs.Book.{outline}
use Rattle.tf_engines.specs.Taking.{AllDone, AllGiven, AreSeated, IsTurnBy}
use Rattle.tf_engines.proofs.TakingLemmas.{same_plan}
use Rattle.tf_engines.proofs.TurnsLemmas.{picked_more, picked_last}
use Rattle.tf_engines.proofs.taking_turns.take_picked.Goals as goal

pub turn_of-requires-clause-seated : goal.turn_of-requires-clause-seated
turn_of-requires-clause-seated g c =
    let had = c.loop-pick.invariant in
    subst (λ (p : Outline). AreSeated p c.loop-pick.shared.now.past c.loop-pick.seats.items) (sym (same_plan c.loop-pick.shared c.args.shared.now had.origin)) had.seated

pub loop-pick-preserved : goal.loop-pick-preserved
loop-pick-preserved g c =
    let had = c.loop-pick.invariant in
    let e = c.in_default.ensures in
    let plan : Outline = outline c.args.shared.now.start in
    let same : outline c.loop-pick.shared.start ≡ plan = same_plan c.loop-pick.shared c.args.shared.now had.origin in
    let between = c.loop-pick.shared.now.past in
    let after = c.turn_of.new.shared.now.past in
    record {
      origin = search rules;
      hands = search rules;
      seats = search rules;
      turns = picked_more plan c.args.picks.now (vec_len c.args.hands.now) c.loop-pick.pick-index (slice_index_or c.args.picks.now c.loop-pick.pick-index 0 % c.len-count.result) c.args.shared.now.now.past between after c.loop-pick-test.true
          (ap (λ (n : ℕ). slice_index_or c.args.picks.now c.loop-pick.pick-index 0 % n) c.len-count.ensures) had.turns (subst (λ (p : Outline). IsTurnBy p (slice_index_or c.args.picks.now c.loop-pick.pick-index 0 % c.len-count.result) between after) same e.turn);
      seated = subst (λ (p : Outline). AreSeated p after c.turn_of.new.seats.items) same e.seated;
      given = λ told base given.
          subst (λ (p : Outline). AllGiven g.P.Performer.did p after told base c.turn_of.new.hands.items c.turn_of.new.seats.items) same
          (e.goes told base (subst (λ (p : Outline). AllGiven g.P.Performer.did p between told base c.loop-pick.hands.items c.loop-pick.seats.items) (sym same) (had.given told base given)));
    }

pub returns-in-Some-clause-taken : goal.returns-in-Some-clause-taken
returns-in-Some-clause-taken g c =
    picked_last (outline c.args.shared.now.start) c.args.picks.now (vec_len c.args.hands.now) c.loop-pick.pick-index (slice_index_or c.args.picks.now c.loop-pick.pick-index 0 % c.len-count.result) c.args.shared.now.now.past c.loop-pick.shared.now.past c.turn_of.new.shared.now.past c.loop-pick-test.true
    (ap (λ (n : ℕ). slice_index_or c.args.picks.now c.loop-pick.pick-index 0 % n) c.len-count.ensures) c.loop-pick.invariant.turns c.turn_of.ensures.added

pub returns-in-Some-clause-stops : goal.returns-in-Some-clause-stops
returns-in-Some-clause-stops g c = λ told base given.
    let had = c.loop-pick.invariant in
    let same = same_plan c.loop-pick.shared c.args.shared.now had.origin in
    subst (λ (p : Outline). AllDone g.P.Performer.did p c.turn_of.new.shared.now.past c.in-Some.failed told base c.turn_of.new.hands.items) same
    (c.in-Some.ensures.stops told base (subst (λ (p : Outline). AllGiven g.P.Performer.did p c.loop-pick.shared.now.past told base c.loop-pick.hands.items c.loop-pick.seats.items) (sym same) (had.given told base given)))
