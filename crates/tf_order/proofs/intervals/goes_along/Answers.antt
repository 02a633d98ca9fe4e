use Rattle.std.proofs.Common.{◌≡◌, ◌∙◌, ◌≤◌, Some, arith, slice_get}
use Rattle.std.proofs.lemmas.Grind.{common_steps}
use Rattle.std.proofs.lemmas.Option.{gets}
use Rattle.tf_order.proofs.PathLemmas.{path_there}
use Rattle.tf_order.proofs.IntervalLemmas.{along_seen, along_there}
use Rattle.tf_order.proofs.intervals.goes_along.Goals as goal

pub returns-then-x-y : goal.returns-then-x-y
returns-then-x-y c up =
    let x_is : slice_get c.turns-path.result.now c.args.turns ≡ Some c.in-Some-Some.x.now = grind (arith, common_steps, gets, c.in-Some-Some.ensures.lookup) in
    let y_is : slice_get c.turns-other.result.now c.args.turns ≡ Some c.in-Some-Some.y.now = grind (arith, common_steps, gets, c.in-Some-Some.ensures'.lookup) in
    let few : c.args.turns ≤ c.turns_shared.result = omega arith in
    along_there c.args.turns c.args.most
    (c.turns-path.ensures ∙ path_there c.args.outline.now.atoms.items c.args.b c.index.result.now c.requires.first c.index.ensures)
    (c.turns-other.ensures ∙ path_there c.args.outline.now.atoms.items c.args.atom c.index-2.result.now c.requires.second c.index-2.ensures)
    (along_seen c.turns_shared.result c.args.turns c.args.most c.turns-path.result.now c.turns-other.result.now c.in-Some-Some.x.now c.in-Some-Some.y.now c.turns_shared.ensures few x_is y_is c.if-x-y.true (c.is_up_to.ensures up))
