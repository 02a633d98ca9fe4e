use Rattle.tf_flow.specs.Listing.{shown_atoms, shown_levels}
use Rattle.tf_order.specs.Tables.{AreLooked}
use Rattle.tf_order.proofs.compilation.look_at_flows.Given as goal

abbrev pub invariant-loop-flow : goal.invariant-loop-flow
invariant-loop-flow l = AreLooked (shown_atoms l.outline.atoms.items) (shown_levels l.outline.levels.items) l.flow l.found.table.items l.found.faults.items
