use Rattle.std.proofs.Common.{◌≡◌, map}
use Rattle.tf_numbers.specs.Numbers.{which_below, numbers_below}
use Rattle.tf_model.specs.Plan.{is_before}
use Rattle.tf_order.specs.Tables.{plan_seen, atoms_found, AreRowsAt}
use Rattle.tf_order.proofs.tables.order_atoms.Given as goal

abbrev pub invariant-loop-a : goal.invariant-loop-a
invariant-loop-a l = record {
  earlier : AreRowsAt (plan_seen l.outline) (atoms_found l.outline) l.a 0 l.predecessors.items l.opened.items;
  later : l.successors.items ≡ map (λ a. which_below (atoms_found l.outline) (is_before (plan_seen l.outline) a)) (numbers_below l.a);
}
