use Rattle.serde_json.specs.View.{view}
use Rattle.tf_wire.proofs.BackLemmas.{request_again}
use Rattle.tf_wire.proofs.BoundLemmas.{request_length}
use Rattle.tf_wire.proofs.PrintLemmas.{a_request}
use Rattle.tf_wire.proofs.printing.print_request.Goals as goal

pub print_message-requires-clause-no_float : goal.print_message-requires-clause-no_float
print_message-requires-clause-no_float c = rw c.in_ok-message.ensures.spelled (a_request c.args.request.now)

pub print_message-requires-clause-short : goal.print_message-requires-clause-short
print_message-requires-clause-short c = rw c.in_ok-message.ensures.spelled (request_length c.args.request.now c.in_ok-message.ensures.parts c.requires.few_words c.requires.few_args)

pub returns-clause-back : goal.returns-clause-back
returns-clause-back c = request_again c.print_message.result (view c.in_ok-message.message) c.args.request.now c.in_ok-message.ensures.spelled c.in_ok-message.ensures.parts c.print_message.ensures.back
