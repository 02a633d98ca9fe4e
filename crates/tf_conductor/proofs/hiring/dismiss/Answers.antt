use Rattle.std.proofs.Common.{◌≡◌, ◌∙◌, ◌∷◌, ◌++◌, [], ap, sym, false}
use Rattle.std.proofs.lemmas.List.{map-append}
use Rattle.std.proofs.lemmas.List.Elements.{All-push}
use Rattle.tf_conductor.specs.declared.conductors.Conductor.{Conductor}
use Rattle.tf_conductor.proofs.hiring.dismiss.Goals as goal

pub loop-conductor-preserved : goal.loop-conductor-preserved
loop-conductor-preserved g c =
    let i = c.loop-conductor.invariant in
    let w : Conductor g.row.K.Denot g.row.P.Denot = c.in-Some.conductor in
    record {
      runners = c.push_reserved.ensures.items ∙ ap (λ l. l ++ w.runner ∷ []) i.runners ∙ sym (map-append (λ (v : Conductor g.row.K.Denot g.row.P.Denot). v.runner) c.loop-conductor.yielded (w ∷ []));
      passes = c.push_reserved-in-loop-conductor.ensures.items ∙ ap (λ l. l ++ w.pass ∷ []) i.passes ∙ sym (map-append (λ (v : Conductor g.row.K.Denot g.row.P.Denot). v.pass) c.loop-conductor.yielded (w ∷ []));
      runners_room = c.push_reserved.ensures.capacity ∙ i.runners_room;
      passes_room = c.push_reserved-in-loop-conductor.ensures.capacity ∙ i.passes_room;
      halted = λ right. All-push (λ (v : Conductor g.row.K.Denot g.row.P.Denot). v.halted ≡ false) c.loop-conductor.yielded w (i.halted right) c.if-this.false;
    }
