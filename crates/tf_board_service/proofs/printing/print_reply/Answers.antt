use Rattle.std.proofs.Common.{◌≡◌, ◌++◌, subst}
use Rattle.std.specs.Prelude.{OnOk}
use Rattle.serde_json.specs.Data.{Data}
use Rattle.tf_wire.specs.Grammar.{frame_of}
use Rattle.tf_board_service.specs.Sessions.{reply_frame}
use Rattle.tf_board_service.proofs.PrintLemmas.{reply_short, reply_without}
use Rattle.tf_board_service.proofs.printing.print_reply.Goals as goal

pub print_message-requires-clause-no_float : goal.print_message-requires-clause-no_float
print_message-requires-clause-no_float c = rw c.in_ok-message.ensures.spelled (reply_without c.args.reply.now)

pub print_message-requires-clause-short : goal.print_message-requires-clause-short
print_message-requires-clause-short c = rw c.in_ok-message.ensures.spelled (reply_short c.args.reply.now c.in_ok-message.ensures.texts c.requires.few)

pub returns : goal.returns
unfolding reply_frame
returns c = subst (λ (d : Data). OnOk c.print_message.result (c.print_message.new.out.items ≡ c.args.out.now.items ++ frame_of d)) c.in_ok-message.ensures.spelled c.print_message.ensures.frame
