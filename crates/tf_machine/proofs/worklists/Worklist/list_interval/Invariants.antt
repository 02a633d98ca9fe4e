use Rattle.std.proofs.Common.{◌-◌, ◌≤◌}
use Rattle.tf_model.specs.Plan.{outline_of}
use Rattle.tf_machine.specs.Tables.{shown_by}
use Rattle.tf_machine.specs.Worklists.{AreRelisted}
use Rattle.tf_machine.proofs.worklists.Worklist.list_interval.Given as goal

abbrev pub invariant-loop-atom : goal.invariant-loop-atom
invariant-loop-atom l = record {
  from : l.first ≤ l.atom;
  within : l.atom ≤ l.past;
  reached : AreRelisted (outline_of l.compiled) (shown_by l.tables) l.fn.reach l.first l.atom l.initial.self l.self;
}

abbrev pub decreases-loop-atom : goal.decreases-loop-atom
decreases-loop-atom l = l.past - l.atom
