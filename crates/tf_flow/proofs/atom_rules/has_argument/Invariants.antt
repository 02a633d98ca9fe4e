use Rattle.std.proofs.Common.{◌≡◌, drop}
use Rattle.tf_flow.specs.Tree.{is_among}
use Rattle.tf_flow.specs.Rules as rule
use Rattle.tf_flow.proofs.atom_rules.has_argument.Given as goal

abbrev pub invariant-loop-arg : goal.invariant-loop-arg
invariant-loop-arg l = is_among (rule.arg_names (drop l.arg-index l.args)) l.name ≡ is_among (rule.arg_names l.args) l.name
