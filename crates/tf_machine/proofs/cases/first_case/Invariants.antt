use Rattle.std.proofs.Common.{◌-◌, ◌≤◌}
use Rattle.tf_model.specs.Plan.{outline_of, count}
use Rattle.tf_machine.specs.Tables.{shown_by}
use Rattle.tf_machine.proofs.FirstLemmas.{IsFirstBelow}
use Rattle.tf_machine.proofs.cases.first_case.Given as goal

abbrev pub invariant-loop-atom : goal.invariant-loop-atom
invariant-loop-atom l = record {
  within : l.atom ≤ count (outline_of l.compiled);
  first : IsFirstBelow (outline_of l.compiled) (shown_by l.tables) l.atom l.first;
}

abbrev pub decreases-loop-atom : goal.decreases-loop-atom
decreases-loop-atom l = count (outline_of l.compiled) - l.atom
