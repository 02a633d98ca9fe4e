use Rattle.std.proofs.Common.{◌≡◌, drop}
use Rattle.tf_flow.specs.Tree.{first_some}
use Rattle.tf_flow.specs.Rules as rule
use Rattle.tf_flow.proofs.link_rules.first_stray.Given as goal

abbrev pub invariant-loop-link : goal.invariant-loop-link
invariant-loop-link l = first_some (rule.stray_end l.names.keys) (drop l.link-index l.links) ≡ first_some (rule.stray_end l.names.keys) l.links
