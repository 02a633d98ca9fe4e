use Rattle.std.proofs.Common.{arith}
use Rattle.tf_model.specs.Before.{item_before}
use Rattle.tf_order.proofs.RootItemLemmas.{marks_more, marks_whole}
use Rattle.tf_order.proofs.root_items.marks_before.Goals as goal

pub loop-u-preserved : goal.loop-u-preserved
loop-u-preserved c = λ flows shows.
    marks_more (λ u. item_before flows 0 u c.args.item) c.loop-u.u c.loop-u.marks.items c.push.new.self.items c.item_before.result (c.loop-u.invariant flows shows) (c.item_before.ensures flows shows) c.in_ok-push.ensures.items

pub returns : goal.returns
returns c = λ flows shows.
    marks_whole (λ u. item_before flows 0 u c.args.item) c.loop-u.u c.args.count c.loop-u.marks.items (c.loop-u.invariant flows shows) (omega (arith, c.loop-u-test.false, c.loop-u.auto.u-end))
