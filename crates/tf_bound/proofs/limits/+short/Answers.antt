-- The retry controller and the items are short one by one.
use Rattle.std.proofs.Common.{◌≡◌, ◌∙◌, ap, subst, arith, take, length, List}
use Rattle.std.proofs.Math.Seq.{take-length}
use Rattle.std.specs.List.{AllByRecursion}
use Rattle.tf_flow.specs.declared.nested.Item.{Item}
use Rattle.tf_flow.specs.Tree.{item_tree}
use Rattle.tf_bound.specs.Short.{IsShortTree}
use Rattle.tf_bound.proofs.AcceptedLemmas.{flow_short}
use Rattle.tf_bound.proofs.limits.+short.Goals as goal

pub flow_is_short-returns : goal.flow_is_short-returns
flow_is_short-returns t c =
    let items = c.items-item-items.result.now in
    let last : c.loop-item.item-index ≡ length items = omega arith in
    let whole : take c.loop-item.item-index items ≡ items = ap (λ n. take n items) last ∙ take-length items in
    flow_short c.args.flow.now items c.items-item-items.ensures c.loop-item.invariant.control
    (subst (λ (list : List Item). AllByRecursion (λ item. IsShortTree (item_tree item)) list) whole c.loop-item.invariant.items)
