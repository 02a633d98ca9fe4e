use Rattle.std.proofs.Common.{◌∙◌, ◌<◌, length, ap, sym, map, Vec, Global}
use Rattle.tf_flow.specs.declared.nested.Item.{Item}
use Rattle.tf_flow.specs.Plan.{item_as_written}
use Rattle.tf_target.specs.Target.{is_marked}
use Rattle.tf_target.proofs.KeepingLemmas.{picked_yes, picked_no}
use Rattle.tf_target.proofs.keeping.kept_items.Goals as goal
use Rattle.tf_target.proofs.keeping.kept_items.Goals.{then-is_marked+in_ok-copy_item+in_ok-push, else-is_marked}

pub loop-u-preserved : goal.loop-u-preserved
loop-u-preserved c =
    let within : c.loop-u.u < length c.args.items.now = c.loop-u-test.true in
    elim c.if-is_marked.branch [
      | then-is_marked+in_ok-copy_item+in_ok-push w ↦
          picked_yes (is_marked c.args.marks.now) c.args.items.now c.loop-u.u c.index-items-u.result w.in_ok-copy_item.field-0 c.loop-u.kept.items c.if-is_marked.kept.items within c.index-items-u.is (sym c.is_marked.ensures ∙ w.if-is_marked.true)
          c.loop-u.invariant w.in_ok-copy_item.ensures (ap (λ (v : Vec Item Global). v.items) w.kept-is ∙ w.in_ok-push.ensures.items)
      | else-is_marked w ↦
          ap (λ (v : Vec Item Global). map item_as_written v.items) w.kept-is
          ∙ picked_no (is_marked c.args.marks.now) c.args.items.now c.loop-u.u c.index-items-u.result c.loop-u.kept.items within c.index-items-u.is (sym c.is_marked.ensures ∙ w.if-is_marked.false) c.loop-u.invariant
    ]
