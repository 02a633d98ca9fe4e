use Rattle.tf_commands.specs.Behaviour.{unread, too_long}
use Rattle.tf_commands.specs.Messages.{refusal}
use Rattle.tf_commands.proofs.BehaviourLemmas.{closed_file}
use Rattle.tf_commands.proofs.reading.open_file.Goals as goal

pub returns-in-Ok-clause-closed : goal.returns-in-Ok-clause-closed
returns-in-Ok-clause-closed g c =
    closed_file c.open_bytes.result _ c.args.source c.in-Ok.bytes.items _ _ _ c.in-Ok.ensures.whole c.in-Ok.ensures.short (rw c.deref.ensures.value at c.open_bytes.ensures.closed)

pub returns-in-Err-Read-clause-closed : goal.returns-in-Err-Read-clause-closed
returns-in-Err-Read-clause-closed g c = unread (λ told. ((c.close.ensures.says.files told).files, c.close.ensures.says.marks told)) c.close.ensures.closes

pub returns-in-Err-TooLong-clause-closed : goal.returns-in-Err-TooLong-clause-closed
unfolding refusal
returns-in-Err-TooLong-clause-closed g c =
    too_long (λ told. ((c.close-in-Err-TooLong.ensures.says.files told).files, c.close-in-Err-TooLong.ensures.says.marks told)) (c.read_all.ensures.too_long (rw c.in-Err-TooLong.field-0-is at c.in-Err-TooLong.is)) c.close-in-Err-TooLong.ensures.closes
