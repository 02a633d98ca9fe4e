use Rattle.std.proofs.Common.{arith}
use Rattle.tf_target.proofs.TargetLemmas.{place_found, place_not, place_nowhere}
use Rattle.tf_target.proofs.targeting.place_of.Goals as goal

pub returns-then-eq : goal.returns-then-eq
returns-then-eq c =
    place_found c.args.items.now c.args.name.now c.item_name.result c.loop-place.place c.index-items-place.result c.eq.result c.loop-place.invariant c.loop-place-test.true c.index-items-place.is c.item_name.ensures c.eq.ensures c.if-eq.true

pub loop-place-preserved : goal.loop-place-preserved
loop-place-preserved c =
    place_not c.args.items.now c.args.name.now c.item_name.result c.loop-place.place c.index-items-place.result c.eq.result c.loop-place.invariant c.loop-place-test.true c.index-items-place.is c.item_name.ensures c.eq.ensures c.if-eq.false

pub returns : goal.returns
returns c = place_nowhere c.args.items.now c.args.name.now c.loop-place.place c.loop-place.invariant (omega (arith, c.loop-place-test.false, c.loop-place.auto.place-end))
