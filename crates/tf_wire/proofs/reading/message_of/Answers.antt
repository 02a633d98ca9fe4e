use Rattle.std.proofs.Common.{sym, ◌∙◌}
use Rattle.tf_numbers.proofs.TruthLemmas.{clash}
use Rattle.tf_wire.proofs.MessageLemmas.{utf8_message, no_message}
use Rattle.tf_wire.proofs.reading.message_of.Goals as goal

pub returns-in-Ok : goal.returns-in-Ok
returns-in-Ok c = sym (utf8_message c.args.frame.now c.in-Ok.ensures.ok.0 ∙ c.in-Ok.ensures.ok.1)

pub returns-else-is_memory : goal.returns-else-is_memory
returns-else-is_memory c = sym (no_message c.args.frame.now (c.in-Err.ensures.err (λ memory. clash c.is_memory.result (c.is_memory.ensures.1 memory) c.if-is_memory.false)))
