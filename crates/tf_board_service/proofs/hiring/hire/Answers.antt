use Rattle.std.proofs.Common.{rules, ◌≡◌, ◌∙◌, ◌++◌, ◌∷◌, [], List, map, arith, ap, sym, subst, append_assoc}
use Rattle.std.specs.List.{All}
use Rattle.std.proofs.lemmas.List.{map-append}
use Rattle.std.proofs.lemmas.List.Elements.{All-push}
use Rattle.tf_board_service.specs.declared.serving.Server.{Server}
use Rattle.tf_board_service.specs.declared.sessions.SessionEnd.TheVariants as end
use Rattle.tf_board_service.proofs.EndLemmas.{removed_first}
use Rattle.tf_board_service.proofs.hiring.hire.Goals as goal

pub loop-pass-preserved : goal.loop-pass-preserved
loop-pass-preserved g c =
    let S = Server g.row.K.Denot g.row.L.Denot in
    let w : S = record { link = c.remove-link.result; pass = c.in-Some.pass; points = c.new.result; end = end.Halted } in
    let i = c.loop-pass.invariant in
    let old : List S = c.loop-pass.servers.items in
    let rest : List g.row.L.Denot = c.remove-link.new.self.items in
    let first : c.loop-pass.links.items ≡ w.link ∷ rest
    = removed_first c.loop-pass.links.items rest w.link (omega (arith, c.remove-link.ensures.len, c.loop-pass.links.ok.0)) c.remove-link.ensures.value c.remove-link.ensures.items in
    record {
      links = ap (λ (l : List S). map (λ (v : S). v.link) l ++ rest) c.push_reserved.ensures.items ∙ ap (λ (l : List g.row.L.Denot). l ++ rest) (map-append (λ (v : S). v.link) old (w ∷ []))
          ∙ append_assoc (map (λ (v : S). v.link) old) (w.link ∷ []) rest ∙ ap (λ (l : List g.row.L.Denot). map (λ (v : S). v.link) old ++ l) (sym first) ∙ i.links;
      passes = ap (λ (l : List S). map (λ (v : S). v.pass) l) c.push_reserved.ensures.items ∙ map-append (λ (v : S). v.pass) old (w ∷ []) ∙ ap (λ l. l ++ w.pass ∷ []) i.passes;
      points = subst (λ (l : List S). All (λ v. v.points.items ≡ []) l) (sym c.push_reserved.ensures.items) (All-push (λ (v : S). v.points.items ≡ []) old w i.points c.new.ensures.items);
      room = search rules;
      kept = search rules;
    }
