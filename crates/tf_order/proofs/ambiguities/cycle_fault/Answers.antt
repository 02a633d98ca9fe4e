use Rattle.std.proofs.Common.{◌∙◌, sym, ap, map, arith}
use Rattle.tf_model.specs.Before.{item_name}
use Rattle.tf_order.specs.Context.{place_seen}
use Rattle.tf_order.proofs.AmbiguityLemmas.{cycle_found, no_cycle}
use Rattle.tf_order.proofs.ambiguities.cycle_fault.Goals as goal

pub returns-then-has_in : goal.returns-then-has_in
returns-then-has_in c =
    cycle_found c.args.context.now c.args.links.now c.args.reach.now c.loop-item.item c.in_ok-items.items.items c.make.result c.requires (omega arith) (sym c.has_in.ensures ∙ c.if-has_in.true) c.loop-item.invariant
    c.in_ok-items.ensures.shortest (c.make.ensures ∙ (c.in_ok-names.ensures ∙ ap (map (item_name (place_seen c.args.context.now))) c.deref.ensures.value))

pub returns : goal.returns
returns c = no_cycle c.args.context.now c.args.links.now c.args.reach.now c.loop-item.item c.requires (omega arith) c.loop-item.invariant
