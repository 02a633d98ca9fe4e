use Rattle.std.proofs.Common.{Some, sym, ap, ◌∙◌}
use Rattle.tf_flow.specs.Outline.{a_task, a_retry}
use Rattle.tf_flow.specs.Paths.{shown_part}
use Rattle.tf_flow.specs.declared.paths.Part.{Part}
use Rattle.tf_model.proofs.PlanLemmas.{kind_told}
use Rattle.tf_rules.proofs.attempts.retry_at.Goals as goal

pub returns-in-Retry-clause-kind : goal.returns-in-Retry-clause-kind
returns-in-Retry-clause-kind c = sym (kind_told c.args.plan.now c.args.atom (a_retry c.in-Retry.retry.now) (c.part.ensures ∙ ap (λ (p : Part). Some (shown_part p)) c.in-Retry.is))

pub returns-in-Task-clause-kind : goal.returns-in-Task-clause-kind
returns-in-Task-clause-kind c = sym (kind_told c.args.plan.now c.args.atom (a_task c.in-Task.field-0.now) (c.part.ensures ∙ ap (λ (p : Part). Some (shown_part p)) c.in-Task.is))
