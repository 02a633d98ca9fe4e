use Rattle.std.proofs.Common.{ℕ, List, [], refl, sym, ap, subst}
use Rattle.tf_turnstile.specs.Passes.{IsIdle, PassValue}
use Rattle.tf_shared_board.specs.declared.calls.Made.{Made}
use Rattle.tf_ports.specs.Ports.{SeenLink, seen_link}
use Rattle.tf_board_service.specs.Serving.{ServingValue}
use Rattle.tf_board_service.specs.Turning.{seen_calls, start_past}
use Rattle.tf_board_service.specs.Turns.{HasAnsweredAll, IsOver}
use Rattle.tf_board_service.specs.declared.sessions.SessionEnd.{SessionEnd}
use Rattle.tf_board_service.proofs.SessionLemmas.{begins, over_waited, seen_ended}
use Rattle.tf_board_service.proofs.serving.serve.Goals as goal

pub frames-init : goal.frames-init
frames-init g c =
    let t = c.args.turnstile.now in
    let n = c.args.number in
    let now : SeenLink = seen_link g.L.Link.left g.L.Link.transcript g.L.Link.faults g.L.Link.ends c.args.server.now.link in
    record {
      idle = subst (λ (p : PassValue (ServingValue g.row.K.Denot) Made). IsIdle t n p) (sym c.requires.made) (record { mine = record { table = refl; start = refl }; number_is = refl; nothing = refl });
      all = subst (λ (p : PassValue (ServingValue g.row.K.Denot) Made). HasAnsweredAll n (start_past t) (seen_calls p) now now c.args.server.now.points.items c.make-incoming.result) (sym c.requires.made)
          (subst (λ (l : List ℕ). HasAnsweredAll n (start_past t) [] now now l c.make-incoming.result) (sym c.requires.points)
          (begins n (start_past t) now c.make-incoming.result c.make-incoming.ensures.frames c.make-incoming.ensures.place c.make-incoming.ensures.refused));
    }

pub returns-in-Err : goal.returns-in-Err
returns-in-Err g c =
    let t = c.args.turnstile.now in
    let n = c.args.number in
    let before : SeenLink = seen_link g.L.Link.left g.L.Link.transcript g.L.Link.faults g.L.Link.ends c.args.server.now.link in
    let mid : SeenLink = seen_link g.L.Link.left g.L.Link.transcript g.L.Link.faults g.L.Link.ends c.go_on.new.server.link in
    let f = c.finish.ensures in
    let over : IsOver n (start_past t) (seen_calls c.finish.new.server.pass) before mid c.go_on.new.server.points.items c.in-Err.end =
    over_waited n (start_past t) (seen_calls c.go_on.new.server.pass) (seen_calls c.finish.new.server.pass) before mid c.go_on.new.server.points.items f.waited c.in-Err.end (c.in-Err.ensures.goes before c.frames.invariant.all) in
    record {
      idle = f.idle;
      over =
          subst (λ (s : SeenLink). IsOver n (start_past t) (seen_calls c.finish.new.server.pass) before s c.finish.new.server.points.items c.finish.new.server.end)
          (sym (seen_ended g.L.Link.left g.L.Link.transcript g.L.Link.faults g.L.Link.ends c.finish.new.server.link c.end.new.self c.end.ensures.same c.end.ensures.counts))
          (subst (λ (e : SessionEnd). IsOver n (start_past t) (seen_calls c.finish.new.server.pass) before (seen_link g.L.Link.left g.L.Link.transcript g.L.Link.faults g.L.Link.ends c.finish.new.server.link) c.finish.new.server.points.items e) (sym f.end)
          (subst (λ (s : SeenLink). IsOver n (start_past t) (seen_calls c.finish.new.server.pass) before s c.finish.new.server.points.items c.in-Err.end) (sym (ap (λ (k : g.row.L.Denot). seen_link g.L.Link.left g.L.Link.transcript g.L.Link.faults g.L.Link.ends k) f.link))
          (subst (λ (l : List ℕ). IsOver n (start_past t) (seen_calls c.finish.new.server.pass) before mid l c.in-Err.end) (sym f.points) over)));
    }
