use Rattle.std.proofs.Common.{length, arith, ap}
use Rattle.tf_board_service.proofs.AnswerLemmas.{long_rule}
use Rattle.tf_board_service.proofs.answering.refusal.Goals as goal

pub message_text-requires : goal.message_text-requires
message_text-requires c = record { long = omega (arith, long_rule c.args.fault c.requires.rule, ap length c.in_ok-message.ensures.line, ap length c.deref.ensures.value) }
