use Rattle.std.proofs.Common.{◌≡◌, drop}
use Rattle.std.specs.List.{list_any}
use Rattle.tf_flow.specs.Rules as rule
use Rattle.tf_flow.proofs.link_rules.any_decides.Given as goal

abbrev pub invariant-loop-link : goal.invariant-loop-link
invariant-loop-link l = list_any (rule.decides_flow l.nested.keys) (drop l.link-index l.links) ≡ list_any (rule.decides_flow l.nested.keys) l.links
