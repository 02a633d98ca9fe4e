use Rattle.std.proofs.Common.{◌≡◌, drop}
use Rattle.tf_flow.specs.Limits.{limit_fault}
use Rattle.tf_flow.specs.Tree.{first_some}
use Rattle.tf_flow.specs.Shown.{shown_places}
use Rattle.tf_flow.proofs.limits.first_of.Given as goal

abbrev pub invariant-loop-limit : goal.invariant-loop-limit
invariant-loop-limit l = first_some (limit_fault l.nesting (shown_places l.order) l.store) (drop l.limit-index l.limits) ≡ first_some (limit_fault l.nesting (shown_places l.order) l.store) l.limits
