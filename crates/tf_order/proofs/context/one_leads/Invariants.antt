use Rattle.std.proofs.Common.{◌≡◌, take, false}
use Rattle.std.specs.List.{list_any}
use Rattle.tf_order.specs.Marks.{leads_to_item}
use Rattle.tf_order.proofs.context.one_leads.Given as goal

abbrev pub invariant-loop-other : goal.invariant-loop-other
invariant-loop-other l = list_any (leads_to_item l.reach l.item) (take l.other-index l.items) ≡ false
