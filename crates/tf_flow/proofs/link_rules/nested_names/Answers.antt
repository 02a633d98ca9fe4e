use Rattle.std.proofs.Common.{◌∙◌, sym, arith, length, ◌<◌}
use Rattle.tf_flow.proofs.LinkLemmas.{nested_more_flow, nested_more_task}
use Rattle.tf_flow.proofs.link_rules.nested_names.Goals as goal
use Rattle.tf_flow.proofs.link_rules.nested_names.Goals.{then-is_nested+in_ok-push, else-is_nested}

pub loop-item-preserved : goal.loop-item-preserved
loop-item-preserved c =
    let within : c.loop-item.item-index < length c.args.items.now = omega arith in
    elim c.if-is_nested.branch [
      | then-is_nested+in_ok-push w ↦
          let more = nested_more_flow c.args.items.now c.loop-item.item-index c.item-item.result within c.item-item.is (sym c.is_nested.ensures ∙ w.if-is_nested.true) in
          cc (w.in_ok-push.ensures.items, w.item_name.ensures, more, w.names-is, c.loop-item.invariant)
      | else-is_nested w ↦
          let more = nested_more_task c.args.items.now c.loop-item.item-index c.item-item.result within c.item-item.is (sym c.is_nested.ensures ∙ w.if-is_nested.false) in
          cc (more, w.names-is, c.loop-item.invariant)
    ]
