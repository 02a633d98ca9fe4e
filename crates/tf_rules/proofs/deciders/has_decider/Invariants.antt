use Rattle.std.proofs.Common.{◌≡◌, drop}
use Rattle.tf_rules.specs.Deciders.{has_any}
use Rattle.tf_rules.specs.Seen.{deciding}
use Rattle.tf_rules.proofs.deciders.has_decider.Given as goal

abbrev pub invariant-loop-link : goal.invariant-loop-link
invariant-loop-link l = has_any (deciding l.name l.link-items) ≡ has_any (deciding l.name (drop l.link-index l.link-items))
