use Rattle.std.proofs.Common.{◌≡◌, ℕ, vec_len, sym, subst}
use Rattle.tf_model.specs.Plan.{Outline}
use Rattle.tf_book.specs.Book.{outline}
use Rattle.tf_engines.specs.Taking.{AllDone, AllGiven, AreSeated, IsRoundAt, TakesTurns}
use Rattle.tf_engines.proofs.TakingLemmas.{same_plan}
use Rattle.tf_engines.proofs.TurnsLemmas.{rounds_begin}
use Rattle.tf_engines.proofs.taking_turns.take_turns.Goals as goal

pub take_rounds-requires-clause-seated : goal.take_rounds-requires-clause-seated
take_rounds-requires-clause-seated g c =
    subst (λ (p : Outline). AreSeated p c.take_picked.new.shared.now.past c.take_picked.new.seats.items) (sym (same_plan c.take_picked.new.shared c.args.shared.now c.take_picked.ensures.origin)) c.in_default.ensures.seated

pub returns-clause-taken : goal.returns-clause-taken
returns-clause-taken g c =
    let e = c.take_picked.ensures in
    let plan : Outline = outline c.args.shared.now.start in
    let other : Outline = outline c.take_picked.new.shared.start in
    let same : other ≡ plan = same_plan c.take_picked.new.shared c.args.shared.now e.origin in
    let picks = c.args.picks.now in
    let first = c.args.shared.now.now.past in
    let mid = c.take_picked.new.shared.now.past in
    let last = c.take_rounds.new.shared.now.past in
    let n : ℕ = vec_len c.args.hands.now in
    subst (λ (p : Outline). TakesTurns p picks n first last) same
    (subst (λ (k : ℕ). TakesTurns other picks k first last) e.count.0
    (c.take_rounds.ensures.taken picks first
    (subst (λ (k : ℕ). IsRoundAt other picks k first mid) (sym e.count.0)
    (subst (λ (p : Outline). IsRoundAt p picks n first mid) (sym same) (rounds_begin plan picks n first mid c.in_default.ensures.turns)))))

pub returns-clause-done : goal.returns-clause-done
returns-clause-done g c = λ told base given.
    let same = same_plan c.take_picked.new.shared c.args.shared.now c.take_picked.ensures.origin in
    subst (λ (p : Outline). AllDone g.P.Performer.did p c.take_rounds.new.shared.now.past c.take_rounds.result told base c.take_rounds.new.hands.items) same
    (c.take_rounds.ensures.done told base (subst (λ (p : Outline). AllGiven g.P.Performer.did p c.take_picked.new.shared.now.past told base c.take_picked.new.hands.items c.take_picked.new.seats.items) (sym same) (c.in_default.ensures.goes told base given)))
