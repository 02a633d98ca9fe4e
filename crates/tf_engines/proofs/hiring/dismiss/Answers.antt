use Rattle.std.proofs.Common.{◌∙◌, ◌∷◌, ◌++◌, [], ap, sym}
use Rattle.std.proofs.lemmas.List.{map-append}
use Rattle.tf_engines.specs.declared.hand_loop.Worker.{Worker}
use Rattle.tf_engines.proofs.CloseLemmas.{all_right}
use Rattle.tf_engines.proofs.hiring.dismiss.Goals as goal

pub loop-worker-preserved : goal.loop-worker-preserved
loop-worker-preserved g c =
    let i = c.loop-worker.invariant in
    let w : Worker g.row.K.Denot g.row.P.Denot = c.in-Some.worker in
    record {
      hands = c.push_reserved.ensures.items ∙ ap (λ l. l ++ w.hand ∷ []) i.hands ∙ sym (map-append (λ (v : Worker g.row.K.Denot g.row.P.Denot). v.hand) c.loop-worker.yielded (w ∷ []));
      passes = c.push_reserved-in-loop-worker.ensures.items ∙ ap (λ l. l ++ w.pass ∷ []) i.passes ∙ sym (map-append (λ (v : Worker g.row.K.Denot g.row.P.Denot). v.pass) c.loop-worker.yielded (w ∷ []));
      hands_room = c.push_reserved.ensures.capacity ∙ i.hands_room;
      passes_room = c.push_reserved-in-loop-worker.ensures.capacity ∙ i.passes_room;
      failed = λ right. all_right (λ (v : Worker g.row.K.Denot g.row.P.Denot). v.failed) c.loop-worker.yielded w (i.failed right) c.if-this.false;
    }
