use Rattle.std.proofs.Common.{◌∙◌}
use Rattle.tf_model.specs.Plan.{outline_of}
use Rattle.tf_details.specs.Elements.{history}
use Rattle.tf_details.proofs.MachineLemmas.{flow_told}
use Rattle.tf_details.proofs.details.Details.state.Goals as goal

pub returns : goal.returns
returns c = λ book are.
    c.flow_state.ensures.after (history c.args.number book) (c.machine.ensures.stands book are) ∙ flow_told (outline_of c.machine.result.now.plan) (history c.args.number book)
