use Rattle.std.proofs.Common.{◌≡◌, true, take}
use Rattle.tf_audit.specs.Verdicts.{is_unfed}
use Rattle.tf_audit.proofs.lines.feed_at.Given as goal

abbrev pub invariant-loop-at : goal.invariant-loop-at
invariant-loop-at l = is_unfed (take l.at l.bytes) ≡ true
