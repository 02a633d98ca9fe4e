use Rattle.std.proofs.Common.{◌≡◌, true, sym, ap, ◌∙◌}
use borrow.Author.Count.{below_more}
use Rattle.tf_values.specs.Text.{is_name}
use Rattle.tf_model.specs.Plan.{outline_of}
use Rattle.tf_report.specs.Lines.{flow_name}
use Rattle.tf_report.proofs.LineLemmas.{flow_named}
use Rattle.tf_audit.proofs.names.flows_are_named.Goals as goal

pub loop-flow-preserved : goal.loop-flow-preserved
loop-flow-preserved c = below_more (λ g. is_name (flow_name (outline_of c.args.plan.now) g) ≡ true) c.loop-flow.flow c.loop-flow.invariant
    (ap is_name (sym (flow_named c.args.plan.now c.loop-flow.flow c.flow_name.result.now c.flow_name.ensures)) ∙ c.bytes.ensures.name)
