use Rattle.std.proofs.Common.{◌-◌, ◌<◌, ◌≤◌}
use Rattle.tf_flow.specs.Listing.{shown_atoms}
use Rattle.tf_order.specs.Intervals.{IsAlongUpTo}
use Rattle.tf_order.specs.Tables.{atoms_found}
use Rattle.tf_order.proofs.intervals.end_by_halving.Given as goal

abbrev pub invariant-loop-end : goal.invariant-loop-end
invariant-loop-end l = record {
  begins : l.b < l.end;
  ends : l.end ≤ l.past;
  past : l.past ≤ atoms_found l.outline;
  along : IsAlongUpTo l.turns l.most (shown_atoms l.outline.atoms.items) l.b l.end;
}

abbrev pub decreases-loop-end : goal.decreases-loop-end
decreases-loop-end l = l.past - l.end
