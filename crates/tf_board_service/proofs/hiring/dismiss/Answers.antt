use Rattle.std.proofs.Common.{◌≡◌, ◌∙◌, ◌∷◌, ◌++◌, [], map, ap, sym, false}
use Rattle.std.proofs.lemmas.List.{map-append}
use Rattle.std.proofs.lemmas.List.Elements.{All-push}
use Rattle.tf_board_service.specs.Sessions.{is_halted}
use Rattle.tf_board_service.specs.declared.serving.Server.{Server}
use Rattle.tf_board_service.specs.declared.sessions.Session.{Session}
use Rattle.tf_board_service.proofs.hiring.dismiss.Goals as goal

pub loop-server-preserved : goal.loop-server-preserved
loop-server-preserved g c =
    let i = c.loop-server.invariant in
    let w : Server g.row.K.Denot g.row.L.Denot = c.in-Some.server in
    let over : Server g.row.K.Denot g.row.L.Denot → Session = λ v. record { end = v.end; points = v.points.items } in
    record {
      links = c.push_reserved.ensures.items ∙ ap (λ l. l ++ w.link ∷ []) i.links ∙ sym (map-append (λ (v : Server g.row.K.Denot g.row.L.Denot). v.link) c.loop-server.yielded (w ∷ []));
      passes = c.push_reserved-in-loop-server.ensures.items ∙ ap (λ l. l ++ w.pass ∷ []) i.passes ∙ sym (map-append (λ (v : Server g.row.K.Denot g.row.L.Denot). v.pass) c.loop-server.yielded (w ∷ []));
      sessions = c.push_reserved-in-loop-server-2.ensures.items ∙ ap (λ l. l ++ record { end = w.end; points = c.make.result } ∷ []) i.sessions
          ∙ ap (λ p. map over c.loop-server.yielded ++ record { end = w.end; points = p } ∷ []) c.make.ensures ∙ sym (map-append over c.loop-server.yielded (w ∷ []));
      links_room = c.push_reserved.ensures.capacity ∙ i.links_room;
      passes_room = c.push_reserved-in-loop-server.ensures.capacity ∙ i.passes_room;
      sessions_room = c.push_reserved-in-loop-server-2.ensures.capacity ∙ i.sessions_room;
      halted = λ right. All-push (λ (v : Server g.row.K.Denot g.row.L.Denot). is_halted v.end ≡ false) c.loop-server.yielded w (i.halted right) (sym c.is_halted-this.ensures ∙ c.if-this.false);
    }
