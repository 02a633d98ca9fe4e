use Rattle.std.proofs.Common.{arith, length, ◌<◌}
use Rattle.tf_flow.proofs.LinkLemmas.{names_more}
use Rattle.tf_target.proofs.keeping.item_names.Goals as goal

pub loop-item-preserved : goal.loop-item-preserved
loop-item-preserved c =
    let within : c.loop-item.item-index < length c.args.items.now = omega arith in
    let more = names_more c.args.items.now c.loop-item.item-index c.item-item.result within c.item-item.is in
    cc (c.in_ok-push.ensures.items, c.item_name.ensures, more, c.loop-item.invariant)
