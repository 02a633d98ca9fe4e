use Rattle.std.proofs.Common.{◌∙◌, None, Some}
use Rattle.tf_rules.proofs.HomeLemmas.{own_told}
use Rattle.tf_rules.proofs.flows.own_flow.Goals as goal

pub returns-in_err-last : goal.returns-in_err-last
returns-in_err-last c = c.from_residual.ensures ∙ own_told c.args.plan.now c.args.atom c.path.result.now None c.path.ensures c.in_err-last.ensures.value

pub returns : goal.returns
returns c = own_told c.args.plan.now c.args.atom c.path.result.now (Some c.in_ok-last.last.now) c.path.ensures c.in_ok-last.ensures.value
