use Rattle.std.proofs.Common.{◌≡◌, drop}
use Rattle.tf_flow.specs.Limits.{passing_nesting}
use Rattle.tf_flow.specs.Tree.{first_some}
use Rattle.tf_flow.proofs.limits.first_deep_test.Given as goal

abbrev pub invariant-loop-link : goal.invariant-loop-link
invariant-loop-link l = first_some passing_nesting (drop l.link-index l.links) ≡ first_some passing_nesting l.links
