use Rattle.std.proofs.Common.{◌≡◌, take, map}
use Rattle.tf_flow.specs.Rules as rule
use Rattle.tf_flow.proofs.link_rules.pairs.Given as goal

abbrev pub invariant-loop-link : goal.invariant-loop-link
invariant-loop-link l = l.pairs.items ≡ map rule.ends (take l.link-index l.links)
