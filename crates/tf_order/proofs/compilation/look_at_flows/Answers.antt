use Rattle.std.proofs.Common.{◌+◌, ◌-◌, arith}
use Rattle.tf_flow.specs.Listing.{shown_atoms, shown_levels}
use Rattle.tf_order.proofs.CompilationLemmas.{looked_begin, looked_from}
use Rattle.tf_order.proofs.compilation.look_at_flows.Goals as goal

pub loop-flow-init : goal.loop-flow-init
loop-flow-init c = looked_begin c.args.outline.now c.len.result c.len-flow.result c.in_ok-found.found.table.items c.in_ok-found.found.faults.items (omega (arith, c.len.ensures)) (omega (arith, c.len-flow.ensures)) c.in_ok-found.ensures.table c.in_ok-found.ensures.faults

pub look_at_flow-requires-clause-looked : goal.look_at_flow-requires-clause-looked
look_at_flow-requires-clause-looked c = looked_from (shown_atoms c.args.outline.now.atoms.items) (shown_levels c.args.outline.now.levels.items) c.loop-flow.flow (c.loop-flow.flow - 1 + 1) c.loop-flow.found.table.items c.loop-flow.found.faults.items
    (omega arith) c.loop-flow.invariant

pub loop-flow-preserved : goal.loop-flow-preserved
loop-flow-preserved c = c.in_ok-look_at_flow.ensures

pub returns : goal.returns
returns c = looked_from (shown_atoms c.args.outline.now.atoms.items) (shown_levels c.args.outline.now.levels.items) c.loop-flow.flow 0 c.loop-flow.found.table.items c.loop-flow.found.faults.items
    (omega arith) c.loop-flow.invariant
