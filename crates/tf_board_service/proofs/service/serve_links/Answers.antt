use Rattle.std.proofs.Common.{◌≡◌, ◌≤◌, length, arith, ◌∙◌}
use Rattle.tf_board_service.specs.declared.serving.Server.{Server}
use Rattle.tf_board_service.proofs.EndLemmas.{all_back, all_hired, first_all, whole_end}
use Rattle.tf_board_service.proofs.service.serve_links.Goals as goal

pub serve_through-done-requires-clause-each : goal.serve_through-done-requires-clause-each
serve_through-done-requires-clause-each g c κs within =
    let r = c.requires in
    let h = c.hire-hired.ensures in
    let W = Server g.row.K.Denot g.row.L.Denot in
    let many : length c.hire-hired.result.items ≤ 64 = omega (arith, h.count, r.passes.0, r.passes.1.count, r.many.1, c.args.passes.ok.0, c.hire-hired.result.ok.0) in
    all_hired g.K.Desk.state c.args.turnstile (λ (w : W). w.pass) (λ (w : W). w.link) (λ (w : W). record { end = w.end; points = w.points.items }) g.L.Link.left g.L.Link.transcript g.L.Link.faults g.L.Link.ends
    c.hire-hired.result.items c.args.passes.items h.passes r.passes.1 r.fresh many

pub close-board-requires : goal.close-board-requires
close-board-requires g c =
    let r = c.requires in
    let h = c.hire-hired.ensures in
    let W = Server g.row.K.Denot g.row.L.Denot in
    let count : length c.hire-hired.result.items ≡ c.args.turnstile.passes = omega (arith, h.count, r.passes.1.count, c.args.passes.ok.0, c.hire-hired.result.ok.0) in
    all_back g.K.Desk.state c.args.turnstile (λ (w : W). w.pass) (λ (w : W). w.link) (λ (w : W). record { end = w.end; points = w.points.items }) g.L.Link.left g.L.Link.transcript g.L.Link.faults g.L.Link.ends
    c.hire-hired.result.items c.serve_through-done.result.items c.serve_through-done.ensures.count c.serve_through-done.ensures.served
    c.dismiss-halted.new.passes.items c.dismiss-halted.ensures.passes count

pub returns : goal.returns
returns g c =
    let r = c.requires in
    let h = c.hire-hired.ensures in
    let W = Server g.row.K.Denot g.row.L.Denot in
    let count : length c.hire-hired.result.items ≡ c.args.turnstile.passes = omega (arith, h.count, r.passes.1.count, c.args.passes.ok.0, c.hire-hired.result.ok.0) in
    whole_end g.K.Desk.state c.args.turnstile (λ (w : W). w.pass) (λ (w : W). w.link) (λ (w : W). record { end = w.end; points = w.points.items }) g.L.Link.left g.L.Link.transcript g.L.Link.faults g.L.Link.ends
    c.hire-hired.result.items c.serve_through-done.result.items c.serve_through-done.ensures.count c.serve_through-done.ensures.served
    c.dismiss-halted.new.passes.items c.dismiss-halted.ensures.passes
    c.close-board.result c.close-board.ensures.history r.fresh c.close-board.ensures.origin c.known.ensures.serving
    c.conclude-shared.result c.conclude-shared.ensures.board c.conclude-shared.ensures.made c.dismiss-halted.result c.dismiss-halted.ensures.halted c.conclude-shared.ensures.halted
    count c.args.links.now.items c.dismiss-halted.new.links.items c.make.result (first_all _ c.hire-hired.new.links.items _ h.empty h.links) c.dismiss-halted.ensures.links
    (c.make.ensures ∙ c.dismiss-halted.ensures.sessions) c.conclude-shared.ensures.legal
