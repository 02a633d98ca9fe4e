use Rattle.std.proofs.Common.{ap, ◌∙◌, arith}
use Rattle.tf_model.specs.Plan.{outline_of}
use Rattle.tf_machine.specs.Machine.{outline}
use Rattle.tf_commands.proofs.AuditLemmas.{judged_so, closed_apart, verdict_said}
use Rattle.tf_commands.proofs.auditing.judge.Goals as goal

pub returns-in-Ok-append_verdict-clause-judges : goal.returns-in-Ok-append_verdict-clause-judges
returns-in-Ok-append_verdict-clause-judges g c =
    judged_so (outline c.args.machine) c.args.log.now c.in-Ok.field-0.verdict _ _ c.deref.result.now c.append_verdict.new.out.items c.new-text.result.items (outline_of c.plan.result.now)
    c.status_of-status.result c.close.result c.in-Ok.ensures.verdict (ap outline_of (c.plan.ensures.is ∙ c.in-Ok.ensures.plan)) c.deref.ensures.value c.in-Ok-append_verdict.ensures
    c.new-text.ensures.items c.status_of-status.ensures c.close.ensures.closes

pub returns-in-Ok-append_verdict-clause-said : goal.returns-in-Ok-append_verdict-clause-said
returns-in-Ok-append_verdict-clause-said g c =
    verdict_said c.in-Ok.field-0.verdict c.deref.result.now (g.K.Desk.state c.args.desk.now) (g.K.Desk.state c.close.new.desk) c.status_of-status.result c.close.result
    c.status_of-status.ensures c.close.ensures.says c.close.ensures.unsaid c.close.ensures.status

pub returns-in-Ok-append_verdict-clause-apart : goal.returns-in-Ok-append_verdict-clause-apart
returns-in-Ok-append_verdict-clause-apart g c = (
  closed_apart c.in-Ok.field-0.verdict c.status_of-status.result c.close.result 8 c.status_of-status.ensures c.close.ensures.status (λ e. omega arith) (λ e. omega arith) (λ e. omega arith),
  closed_apart c.in-Ok.field-0.verdict c.status_of-status.result c.close.result 5 c.status_of-status.ensures c.close.ensures.status (λ e. omega arith) (λ e. omega arith) (λ e. omega arith),
)
