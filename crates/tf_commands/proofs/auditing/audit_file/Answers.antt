use Rattle.tf_commands.proofs.BehaviourLemmas.{done_file, opened_on, undone_file}
use Rattle.tf_commands.specs.Messages.{Audits}
use Rattle.tf_commands.proofs.auditing.audit_file.Goals as goal

pub returns-in-Ok-clause-audited : goal.returns-in-Ok-clause-audited
returns-in-Ok-clause-audited g c =
    done_file _ c.args.source _ c.in-Ok.machine (Audits _ _ _ _) _ _ c.audit_log.result
    (opened_on _ _ c.args.source c.in-Ok.machine c.audit_log.ensures.still c.in-Ok.ensures.opened)
    (rw c.in-Ok.ensures.same at c.audit_log.ensures.audits)

pub returns-in-Err-clause-audited : goal.returns-in-Err-clause-audited
returns-in-Err-clause-audited g c = undone_file _ c.args.source _ _ (Audits _ _ _ _) _ _ c.in-Err.status (λ still. still) c.in-Err.ensures.closed
