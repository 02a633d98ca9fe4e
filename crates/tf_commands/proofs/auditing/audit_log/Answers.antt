use Rattle.tf_commands.specs.Messages.{audited, unread_log, long_log}
use Rattle.tf_commands.proofs.auditing.audit_log.Goals as goal

pub returns-in-Ok-clause-audits : goal.returns-in-Ok-clause-audits
returns-in-Ok-clause-audits g c = audited c.in-Ok.bytes.items c.in-Ok.ensures.whole c.in-Ok.ensures.short (rw c.deref.ensures.value at c.judge.ensures.judges)

pub returns-in-Err-Read-clause-audits : goal.returns-in-Err-Read-clause-audits
returns-in-Err-Read-clause-audits g c = unread_log c.close.ensures.closes

pub returns-in-Err-TooLong-clause-audits : goal.returns-in-Err-TooLong-clause-audits
returns-in-Err-TooLong-clause-audits g c = long_log (c.read_all.ensures.too_long (rw c.in-Err-TooLong.field-0-is at c.in-Err-TooLong.is)) c.close-in-Err-TooLong.ensures.closes
