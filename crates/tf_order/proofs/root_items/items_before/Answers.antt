use Rattle.std.proofs.Common.{length, List, ap, sym, subst, ◌∙◌}
use Rattle.tf_flow.specs.Items.{item_list}
use Rattle.tf_flow.specs.declared.nested.Flow.{Flow}
use Rattle.tf_flow.specs.declared.nested.Item.{Item}
use Rattle.tf_order.specs.Arranged.{ShowsFlows}
use Rattle.tf_order.proofs.RootItemLemmas.{marks_of_plan}
use Rattle.tf_order.proofs.root_items.items_before.Goals as goal

pub returns : goal.returns
returns c =
    marks_of_plan c.args.plan.now c.in_ok-outline.outline c.in_ok-found.found.table.items c.in_ok-found.found.faults.items c.args.item (length c.items.result.now) c.in_ok-marks.marks.items
    c.in_ok-outline.ensures.atoms c.in_ok-outline.ensures.levels c.in_ok-found.ensures
    (λ flows shows. c.in_ok-marks.ensures flows (subst (λ table. ShowsFlows table flows) (sym c.deref-2.ensures.value) shows))
    (ap (λ (xs : List Item). length xs) c.items.ensures ∙ ap (λ (f : Flow). length (item_list f.items)) c.root.ensures.value)
