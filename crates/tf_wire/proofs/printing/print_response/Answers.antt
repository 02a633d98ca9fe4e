use Rattle.serde_json.specs.View.{view}
use Rattle.tf_wire.proofs.BackLemmas.{response_again}
use Rattle.tf_wire.proofs.BoundLemmas.{response_length}
use Rattle.tf_wire.proofs.PrintLemmas.{a_response}
use Rattle.tf_wire.proofs.printing.print_response.Goals as goal

pub print_message-requires-clause-no_float : goal.print_message-requires-clause-no_float
print_message-requires-clause-no_float c = rw c.in_ok-message.ensures.spelled (a_response c.args.response.now)

pub print_message-requires-clause-short : goal.print_message-requires-clause-short
print_message-requires-clause-short c = rw c.in_ok-message.ensures.spelled (response_length c.args.response.now c.in_ok-message.ensures.part)

pub returns-clause-back : goal.returns-clause-back
returns-clause-back c = response_again c.print_message.result (view c.in_ok-message.message) c.args.response.now c.in_ok-message.ensures.spelled c.in_ok-message.ensures.part c.print_message.ensures.back
