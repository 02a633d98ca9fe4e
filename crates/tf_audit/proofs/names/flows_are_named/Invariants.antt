use Rattle.std.proofs.Common.{◌≡◌, ◌<◌, ℕ, true}
use Rattle.tf_values.specs.Text.{is_name}
use Rattle.tf_model.specs.Plan.{outline_of}
use Rattle.tf_report.specs.Lines.{flow_name}
use Rattle.tf_audit.proofs.names.flows_are_named.Given as goal

abbrev pub invariant-loop-flow : goal.invariant-loop-flow
invariant-loop-flow l = (g : ℕ) → g < l.flow → is_name (flow_name (outline_of l.plan) g) ≡ true
