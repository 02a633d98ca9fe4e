use Rattle.std.proofs.Common.{◌≡◌, Some, arith, slice_get}
use Rattle.std.proofs.lemmas.Grind.{common_steps}
use Rattle.std.proofs.lemmas.Option.{gets}
use Rattle.tf_order.specs.Tables.{plan_seen}
use Rattle.tf_order.proofs.SpreadLemmas.{standing_below}
use Rattle.tf_order.proofs.tables.standing.Goals as goal

pub short_numbers-requires : goal.short_numbers-requires
short_numbers-requires c =
    let read : slice_get c.args.table.now 0 ≡ Some (Some c.in-Some-Some.arranged) = grind (arith, common_steps, gets, c.in-Some-Some.ensures.lookup) in
    standing_below c.args.table.now (plan_seen c.args.outline.now).flows c.in-Some-Some.arranged c.deref.result.now c.requires.shows read c.deref.ensures.value c.requires.few
