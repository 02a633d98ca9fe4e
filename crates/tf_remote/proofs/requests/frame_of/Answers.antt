use Rattle.tf_remote.proofs.RequestLemmas.{printed, read_back}
use Rattle.tf_remote.proofs.requests.frame_of.Goals as goal

pub returns-clause-frame : goal.returns-clause-frame
returns-clause-frame c =
    printed c.args.order.now c.args.id c.in_ok-request.request c.new-frame.result.items c.print_request.new.out.items c.in_ok-request.ensures c.new-frame.ensures.items c.in_ok-print_request.ensures.frame

pub returns-clause-read_back : goal.returns-clause-read_back
returns-clause-read_back c =
    read_back c.args.order.now c.args.id c.in_ok-request.request c.in_ok-request.ensures c.requires.whole c.requires.sent c.requires.small c.in_ok-print_request.ensures.back
