use Rattle.std.proofs.Common.{ap, ◌∙◌}
use Rattle.tf_flow.specs.Plan.{PlanValue}
use Rattle.tf_model.specs.Plan.{outline_of, holds}
use Rattle.tf_machine.proofs.compiled.Compiled.holds.Goals as goal

pub returns : goal.returns
returns c = c.holds.ensures ∙ ap (λ (plan : PlanValue). holds (outline_of plan) c.args.flow c.args.atom) c.self.view_is
