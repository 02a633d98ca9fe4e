use Rattle.std.proofs.Common.{sym, ◌∙◌}
use Rattle.std.proofs.lemmas.List.{length-take-le}
use Rattle.tf_scopes.proofs.PlaceLemmas.{front_here}
use Rattle.tf_scopes.proofs.standing.front_in.Goals as goal

pub slice_bounds-result-end : goal.slice_bounds-result-end
slice_bounds-result-end c =
    let there = front_here c.args.number c.args.order.now c.in-Some.place (sym (c.requires c.args.number) ∙ sym c.place_at.ensures ∙ c.in-Some.is) in
    sym (length-take-le c.in-Some.place c.args.order.now there.0)
