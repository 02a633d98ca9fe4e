use Rattle.std.proofs.Common.{◌≡◌, Some, arith, slice_get}
use Rattle.std.proofs.lemmas.Grind.{common_steps}
use Rattle.std.proofs.lemmas.Option.{gets}
use Rattle.tf_order.proofs.IntervalLemmas.{alike_retry, alike_items, each_some}
use Rattle.tf_order.proofs.intervals.last_alike.Goals as goal

pub returns-in-None-Some : goal.returns-in-None-Some
returns-in-None-Some c flows shows =
    let x_is : slice_get c.args.first.now c.args.turns ≡ Some c.in-Some-Some.x.now = grind (arith, common_steps, gets, c.in-Some-Some.ensures.lookup) in
    let y_is : slice_get c.args.second.now c.args.turns ≡ Some c.in-Some-Some.y.now = grind (arith, common_steps, gets, c.in-Some-Some.ensures'.lookup) in
    alike_retry flows c.args.turns 18446744073709551615 c.in-None-Some.field-0-1 c.args.first.now c.args.second.now c.in-Some-Some.x.now c.in-Some-Some.y.now c.requires x_is y_is c.if-x-y.false c.in-None-Some.is-0 c.in-None-Some.is-1

pub returns-in-Some-Some-2 : goal.returns-in-Some-Some-2
returns-in-Some-Some-2 c =
    let x_is : slice_get c.args.first.now c.args.turns ≡ Some c.in-Some-Some.x.now = grind (arith, common_steps, gets, c.in-Some-Some.ensures.lookup) in
    let y_is : slice_get c.args.second.now c.args.turns ≡ Some c.in-Some-Some.y.now = grind (arith, common_steps, gets, c.in-Some-Some.ensures'.lookup) in
    each_some c.last_item_alike.result c.last_item_alike.ensures (λ most steady flows shows.
    alike_items flows c.args.turns most c.in-Some-Some-2.u c.in-Some-Some-2.v c.args.first.now c.args.second.now c.in-Some-Some.x.now c.in-Some-Some.y.now c.requires x_is y_is c.if-x-y.false c.in-Some-Some-2.is-0 c.in-Some-Some-2.is-1 (steady flows shows))
