use Rattle.std.proofs.Common.{◌≡◌, length, arith}
use Rattle.tf_conductor.specs.declared.conductors.Conductor.{Conductor}
use Rattle.tf_conductor.proofs.EndLemmas.{all_back, all_hired, first_all, sym_length, whole_end}
use Rattle.tf_conductor.proofs.conducting.run_all.Goals as goal

pub work_through-done-requires-clause-each : goal.work_through-done-requires-clause-each
work_through-done-requires-clause-each g c κs within =
    let r = c.requires in
    let h = c.hire-hired.ensures in
    let long : length c.args.owners.now ≡ length c.hire-hired.result.items = omega (arith, h.count, r.owners.1, r.passes.0, r.passes.1.count, c.args.passes.ok.0, c.hire-hired.result.ok.0) in
    all_hired g.K.Desk.state c.args.turnstile (λ (w : Conductor g.row.K.Denot g.row.P.Denot). w.pass) (λ (w : Conductor g.row.K.Denot g.row.P.Denot). w.runner) (λ (w : Conductor g.row.K.Denot g.row.P.Denot). w.halted) g.P.Runner.gives g.P.Runner.did
    c.args.owners.now c.hire-hired.result.items c.args.passes.items h.passes r.passes.1 r.fresh r.owners.0 r.owners.2 long (omega (arith, long, r.owners.1, r.many.1))

pub close-board-requires : goal.close-board-requires
close-board-requires g c =
    let r = c.requires in
    let h = c.hire-hired.ensures in
    all_back g.K.Desk.state c.args.turnstile (λ (w : Conductor g.row.K.Denot g.row.P.Denot). w.pass) (λ (w : Conductor g.row.K.Denot g.row.P.Denot). w.runner) (λ (w : Conductor g.row.K.Denot g.row.P.Denot). w.halted) g.P.Runner.gives g.P.Runner.did
    c.hire-hired.result.items c.work_through-done.result.items c.work_through-done.ensures.count c.work_through-done.ensures.worked
    (sym_length c.args.owners.now c.args.turnstile.start.owners (length c.hire-hired.result.items) r.owners.0 (omega (arith, h.count, r.owners.1, r.passes.0, r.passes.1.count, c.args.passes.ok.0, c.hire-hired.result.ok.0)))
    c.dismiss-halted.new.passes.items c.dismiss-halted.ensures.passes (omega (arith, h.count, r.passes.1.count, c.args.passes.ok.0, c.hire-hired.result.ok.0))

pub returns : goal.returns
returns g c =
    let r = c.requires in
    let h = c.hire-hired.ensures in
    record {
      conducted = whole_end g.K.Desk.state c.args.turnstile (λ (w : Conductor g.row.K.Denot g.row.P.Denot). w.pass) (λ (w : Conductor g.row.K.Denot g.row.P.Denot). w.runner) (λ (w : Conductor g.row.K.Denot g.row.P.Denot). w.halted) g.P.Runner.gives g.P.Runner.did
          c.hire-hired.result.items c.work_through-done.result.items c.work_through-done.ensures.count c.work_through-done.ensures.worked
          (sym_length c.args.owners.now c.args.turnstile.start.owners (length c.hire-hired.result.items) r.owners.0 (omega (arith, h.count, r.owners.1, r.passes.0, r.passes.1.count, c.args.passes.ok.0, c.hire-hired.result.ok.0)))
          c.dismiss-halted.new.passes.items c.dismiss-halted.ensures.passes
          c.close-board.result c.close-board.ensures.history r.fresh c.close-board.ensures.origin c.known.ensures.conducting
          c.conclude.result.shared c.conclude.result.halt c.dismiss-halted.result c.dismiss-halted.ensures.halted c.conclude.ensures.halted c.conclude.ensures.made
          c.args.owners.now r.owners.0 (omega (arith, h.count, r.passes.0, r.passes.1.count, r.many.0, c.args.passes.ok.0, c.hire-hired.result.ok.0))
          c.args.runners.now.items c.dismiss-halted.new.runners.items (first_all _ c.hire-hired.new.runners.items _ h.empty h.runners) c.dismiss-halted.ensures.runners
          c.conclude.ensures.board c.conclude.ensures.legal c.conclude.ensures.halt;
    }
