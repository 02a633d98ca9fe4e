use Rattle.std.proofs.Common.{◌≡◌, ℕ, List, Option, length, vec_len, slice_index_or, refl, sym, ◌∙◌, ap, subst, arith}
use Rattle.tf_actions.specs.declared.orders.Order.{Order}
use Rattle.tf_states.specs.declared.record.Entry.{Entry}
use Rattle.tf_hands.specs.Hands.{orders}
use Rattle.tf_book.specs.Book.{BookValue, outline}
use Rattle.tf_engines.specs.Asked.{HasDoneBy}
use Rattle.tf_engines.specs.Shared.{origin_of}
use Rattle.tf_engines.specs.Taking.{TakesTurns}
use Rattle.tf_engines.specs.Working.{HasDoneSo, IsRun}
use Rattle.tf_engines.proofs.TakingLemmas.{empty_seated, first_given}
use Rattle.tf_engines.proofs.TurnsLemmas.{no_turn}
use Rattle.tf_engines.proofs.taking_turns.run_shared.Goals as goal

pub returns-in_default-clause-orders : goal.returns-in_default-clause-orders
returns-in_default-clause-orders g c = λ i d below. c.give_up.ensures.orders i (g.P.Performer.did (slice_index_or c.args.hands.now.items i d))

pub returns-in_default-clause-taken : goal.returns-in_default-clause-taken
returns-in_default-clause-taken g c = no_turn (outline c.args.shared.start) c.args.picks.now (vec_len c.args.hands.now) c.args.shared.now.past c.give_up.result.book.past c.give_up.ensures.past

pub take_turns-failed-requires-clause-seated : goal.take_turns-failed-requires-clause-seated
take_turns-failed-requires-clause-seated g c = empty_seated (outline c.args.shared.start) c.args.shared.now.past c.in-Ok.seats.items c.requires.fresh.still c.in-Ok.ensures.empty

pub returns-clause-taken : goal.returns-clause-taken
returns-clause-taken g c =
    subst (λ (l : List Entry). TakesTurns (outline c.args.shared.start) c.args.picks.now (vec_len c.args.hands.now) c.args.shared.now.past l) (sym c.conclude.ensures.past) c.take_turns-failed.ensures.taken

pub returns-clause-run : goal.returns-clause-run
returns-clause-run g c =
    let S = g.K.Desk.state in
    let gives = g.P.Performer.gives in
    let end = c.conclude.result in
    let run = subst (λ (o : BookValue g.row.K.Denot × Option ℕ × ℕ). IsRun S gives o.2 o.1 o.0 end.book end.how) c.take_turns-failed.ensures.origin c.conclude.ensures.run in
    subst (λ (n : ℕ). IsRun S gives n c.args.shared.limit c.args.shared.start end.book end.how) c.requires.number run

pub returns-clause-orders : goal.returns-clause-orders
returns-clause-orders g c = λ i d below.
    let did = g.P.Performer.did in
    let start = c.args.shared.start in
    let plan = outline start in
    let t = c.take_turns-failed.ensures in
    let told : ℕ → Option (List Order) = λ j. did (slice_index_or c.args.hands.now.items j d) in
    let base : ℕ → List Order = λ j. orders plan j start.past in
    let given = first_given did plan start.past c.args.shared.now.past c.args.hands.now.items c.in-Ok.seats.items d c.requires.fresh.fresh c.in-Ok.ensures.empty in
    let done : HasDoneSo c.take_turns-failed.result (told i) (base i) (did (slice_index_or c.take_turns-failed.new.hands.items i d)) (orders plan i c.take_turns-failed.new.shared.now.past) = t.done told base given i d (omega (arith, below, t.count)) in
    c.conclude.ensures.orders (told i) (base i) (did (slice_index_or c.take_turns-failed.new.hands.items i d)) (orders plan i c.conclude.result.book.past)
    (subst (λ (l : List Entry). HasDoneSo c.take_turns-failed.result (told i) (base i) (did (slice_index_or c.take_turns-failed.new.hands.items i d)) (orders plan i l)) (sym c.conclude.ensures.past) done)
