use Rattle.std.proofs.Common.{◌∙◌, ◌≤◌, sym, ap, length, arith}
use Rattle.std.proofs.lemmas.Grind.{common_steps}
use Rattle.tf_model.specs.Plan.{least}
use Rattle.tf_order.specs.Context.{count_seen}
use Rattle.tf_order.proofs.AmbiguityLemmas.{two_named, number_read}
use Rattle.tf_order.proofs.ambiguities.ambiguity.Goals as goal

pub item_name-requires : goal.item_name-requires
item_name-requires c =
    let more : 2 ≤ length c.in_ok-from.from.items = grind (arith, common_steps) in
    number_read (count_seen c.args.context.now) c.in_ok-from.from.items 0 c.index.result.now c.in_ok-from.ensures.within (omega (arith, more)) c.index.ensures

pub item_name-requires-2 : goal.item_name-requires-2
item_name-requires-2 c =
    let more : 2 ≤ length c.in_ok-from.from.items = grind (arith, common_steps) in
    number_read (count_seen c.args.context.now) c.in_ok-from.from.items 1 c.index-2.result.now c.in_ok-from.ensures.within (omega (arith, more)) c.index-2.ensures

pub returns : goal.returns
returns c =
    let more : 2 ≤ length c.in_ok-from.from.items = grind (arith, common_steps) in
    λ inner shows. two_named c.args.context.now inner c.args.item c.in_ok-symbols.symbols.items c.in-Some.symbol c.item_name.result c.item_name-2.result c.in_ok-from.from.items c.index.result.now c.index-2.result.now
    (c.in_ok-symbols.ensures inner shows) (ap least (sym c.deref.ensures.value) ∙ (sym c.least.ensures ∙ c.in-Some.is)) c.in_ok-from.ensures.all more c.index.ensures c.index-2.ensures c.item_name.ensures c.item_name-2.ensures
