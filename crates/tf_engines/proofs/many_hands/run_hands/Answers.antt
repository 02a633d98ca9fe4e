use Rattle.std.proofs.Common.{◌≡◌, ◌<◌, List, length, arith, sym, subst, slice_index_or}
use Rattle.tf_states.specs.declared.record.Entry.{Entry}
use Rattle.tf_hands.specs.Hands.{orders}
use Rattle.tf_book.specs.Book.{outline}
use Rattle.tf_engines.specs.Working.{HasDoneSo}
use Rattle.tf_engines.specs.declared.hand_loop.Worker.{Worker}
use Rattle.tf_engines.proofs.CloseLemmas.{prefix_all, all_made, all_ready, all_back, all_last, all_done}
use Rattle.tf_engines.proofs.many_hands.run_hands.Goals as goal

pub work_through-done-requires-clause-each : goal.work_through-done-requires-clause-each
work_through-done-requires-clause-each g c κs within =
    let r = c.requires in
    let h = c.hire-hired.ensures in
    let long : length c.hire-hired.result.items ≡ c.args.turnstile.start.number = omega (arith, h.count, r.number, r.passes.0, r.passes.1.count, c.args.passes.ok.0, c.hire-hired.result.ok.0) in
    all_ready c.args.turnstile (λ (w : Worker g.row.K.Denot g.row.P.Denot). w.pass) c.hire-hired.result.items c.args.passes.items h.passes r.passes.1 r.fresh long (omega (arith, r.few, r.number))

pub close-shared-requires : goal.close-shared-requires
close-shared-requires g c =
    let r = c.requires in
    let h = c.hire-hired.ensures in
    all_back c.args.turnstile (λ (w : Worker g.row.K.Denot g.row.P.Denot). w.pass) (λ (w : Worker g.row.K.Denot g.row.P.Denot). w.hand) g.P.Performer.did (λ (w : Worker g.row.K.Denot g.row.P.Denot). w.failed) c.hire-hired.result.items c.work_through-done.result.items c.work_through-done.ensures.count
    c.work_through-done.ensures.worked c.dismiss-failed.new.passes.items c.dismiss-failed.ensures.passes (omega (arith, h.count, r.passes.1.count, c.args.passes.ok.0, c.hire-hired.result.ok.0))

pub conclude-requires : goal.conclude-requires
conclude-requires g c =
    let r = c.requires in
    let h = c.hire-hired.ensures in
    all_last c.args.turnstile (λ (w : Worker g.row.K.Denot g.row.P.Denot). w.pass) (λ (w : Worker g.row.K.Denot g.row.P.Denot). w.hand) g.P.Performer.did (λ (w : Worker g.row.K.Denot g.row.P.Denot). w.failed) c.hire-hired.result.items c.work_through-done.result.items c.work_through-done.ensures.count
    c.work_through-done.ensures.worked c.dismiss-failed.new.passes.items c.dismiss-failed.ensures.passes c.close-shared.result c.close-shared.ensures.history
    g.K.Desk.state g.P.Performer.gives r.fresh c.close-shared.ensures.origin c.known.ensures.shared c.dismiss-failed.result c.dismiss-failed.ensures.failed
    (omega (arith, h.count, r.some, r.passes.0, r.passes.1.count, c.args.passes.ok.0, c.hire-hired.result.ok.0))

pub returns-clause-orders : goal.returns-clause-orders
returns-clause-orders g c = λ i d below.
    let r = c.requires in
    let h = c.hire-hired.ensures in
    let t = c.args.turnstile in
    let here : i < length c.hire-hired.result.items = omega (arith, below, h.count, r.passes.0, r.passes.1.count, c.args.passes.ok.0, c.hire-hired.result.ok.0) in
    let done = all_done t (λ (w : Worker g.row.K.Denot g.row.P.Denot). w.pass) (λ (w : Worker g.row.K.Denot g.row.P.Denot). w.hand) g.P.Performer.did (λ (w : Worker g.row.K.Denot g.row.P.Denot). w.failed) c.hire-hired.result.items c.work_through-done.result.items c.work_through-done.ensures.count
    c.work_through-done.ensures.worked c.dismiss-failed.new.passes.items c.dismiss-failed.ensures.passes c.close-shared.result c.close-shared.ensures.history
    g.K.Desk.state g.P.Performer.gives r.fresh c.close-shared.ensures.origin c.known.ensures.shared c.dismiss-failed.result c.dismiss-failed.ensures.failed
    c.args.hands.now.items c.dismiss-failed.new.hands.items (prefix_all _ c.hire-hired.new.hands.items _ h.empty h.hands) c.dismiss-failed.ensures.hands
    (all_made t (λ (w : Worker g.row.K.Denot g.row.P.Denot). w.pass) c.hire-hired.result.items c.args.passes.items h.passes r.passes.1) i d here in
    c.conclude.ensures.orders _ _ _ _
    (subst (λ (l : List Entry). HasDoneSo c.dismiss-failed.result (g.P.Performer.did (slice_index_or c.args.hands.now.items i d)) (orders (outline t.start.start) i t.start.start.past) (g.P.Performer.did (slice_index_or c.dismiss-failed.new.hands.items i d)) (orders (outline t.start.start) i l))
    (sym c.conclude.ensures.past) done)
