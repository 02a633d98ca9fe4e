use Rattle.std.proofs.Common.{◌≡◌, ◌+◌, ◌≤◌, length}
use Rattle.tf_machine.specs.Machine.{outline}
use Rattle.tf_audit.specs.Progress.{CanGoOn, HasFollowed}
use Rattle.tf_audit.proofs.auditing.audit_with.Given as goal

abbrev pub invariant-loop-text : goal.invariant-loop-text
invariant-loop-text l = record {
  ready : CanGoOn l.progress;
  followed : HasFollowed (outline l.fn.machine) l.log l.rest l.line l.progress;
  plan : l.progress.machine.plan ≡ l.fn.machine.plan;
  few : l.progress.entries ≤ l.line;
  left : l.line + length l.rest ≤ length l.log;
}

abbrev pub decreases-loop-text : goal.decreases-loop-text
decreases-loop-text l = length l.rest
