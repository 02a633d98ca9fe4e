use Rattle.std.proofs.Common.{◌≡◌, map}
use Rattle.tf_numbers.specs.Numbers.{which_below, numbers_below}
use Rattle.tf_order.specs.Graph.{leads_to}
use Rattle.tf_order.specs.Tables.{plan_seen, atoms_found}
use Rattle.tf_order.proofs.direct.direct_rows.Given as goal

abbrev pub invariant-loop-a : goal.invariant-loop-a
invariant-loop-a l = l.rows.items ≡ map (λ a. which_below (atoms_found l.outline) (leads_to (plan_seen l.outline) a)) (numbers_below l.a)
