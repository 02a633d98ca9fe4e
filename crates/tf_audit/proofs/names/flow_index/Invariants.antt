use Rattle.std.proofs.Common.{◌≡◌, take}
use Rattle.tf_flow.specs.Plan as numbering
use Rattle.tf_audit.proofs.names.flow_index.Given as goal

abbrev pub invariant-loop-flow : goal.invariant-loop-flow
invariant-loop-flow l = l.flows.keys ≡ take l.flow (numbering.flows l.plan)
