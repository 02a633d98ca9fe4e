use Rattle.std.proofs.Common.{◌≡◌, drop}
use Rattle.std.specs.List.{list_any}
use Rattle.tf_rules.specs.Seen.{begins_at, deciding}
use Rattle.tf_rules.proofs.conditions.is_source.Given as goal

abbrev pub invariant-loop-link : goal.invariant-loop-link
invariant-loop-link l = list_any (begins_at l.name) (deciding l.seen.task.now l.seen.links.now) ≡ list_any (begins_at l.name) (deciding l.seen.task.now (drop l.link-index l.seen.links.now))
