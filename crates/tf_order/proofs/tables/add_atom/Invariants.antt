use Rattle.std.proofs.Common.{◌≡◌, ◌-◌, ◌≤◌}
use Rattle.tf_numbers.specs.Numbers.{which_below}
use Rattle.tf_model.specs.Plan.{is_before}
use Rattle.tf_order.specs.Intervals.{TellsTheSame}
use Rattle.tf_order.specs.Tables.{plan_seen, atoms_found, is_after_last, AreRowsAt}
use Rattle.tf_order.proofs.tables.add_atom.Given as goal

abbrev pub invariant-loop-b : goal.invariant-loop-b
invariant-loop-b l = record {
  within : l.b ≤ atoms_found l.outline;
  last_within : l.last.end ≤ atoms_found l.outline;
  this_within : l.this.end ≤ atoms_found l.outline;
  last_same : TellsTheSame (is_after_last (plan_seen l.outline) l.a) l.last.is_after l.b l.last.end;
  this_same : TellsTheSame (is_before (plan_seen l.outline) l.a) l.this.is_after l.b l.this.end;
  later : l.after ≡ which_below l.b (is_before (plan_seen l.outline) l.a);
  rows : AreRowsAt (plan_seen l.outline) (atoms_found l.outline) l.a l.b l.rows.items l.opened.items;
}

abbrev pub decreases-loop-b : goal.decreases-loop-b
decreases-loop-b l = atoms_found l.outline - l.b
