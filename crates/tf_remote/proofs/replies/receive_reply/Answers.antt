use Rattle.tf_ports.specs.Ports.{SeenLink, seen_link}
use Rattle.tf_remote.proofs.ReplyLemmas.{first_result, second_result, reply_comes}
use Rattle.tf_remote.proofs.replies.receive_reply.Goals as goal

pub returns-in-Err-clause-came : goal.returns-in-Err-clause-came
returns-in-Err-clause-came g c =
    let before : SeenLink = seen_link g.L.Link.left g.L.Link.transcript g.L.Link.faults g.L.Link.ends c.args.link.now in
    let now : SeenLink = seen_link g.L.Link.left g.L.Link.transcript g.L.Link.faults g.L.Link.ends c.receive_running.new.link in
    (first_result c.taken_for.result c.args.order.now c.args.id before now c.in-Err.stop c.taken_for.ensures c.in-Err.ensures).0

pub returns-in-Ok-receive_outcome-clause-came : goal.returns-in-Ok-receive_outcome-clause-came
returns-in-Ok-receive_outcome-clause-came g c =
    let before : SeenLink = seen_link g.L.Link.left g.L.Link.transcript g.L.Link.faults g.L.Link.ends c.args.link.now in
    let now : SeenLink = seen_link g.L.Link.left g.L.Link.transcript g.L.Link.faults g.L.Link.ends c.receive_running.new.link in
    let after : SeenLink = seen_link g.L.Link.left g.L.Link.transcript g.L.Link.faults g.L.Link.ends c.receive_outcome.new.link in
    reply_comes c.args.order.now c.args.id c.in-Ok.count before now after c.in-Ok-receive_outcome.outcome c.in-Ok.ensures c.in-Ok-receive_outcome.ensures

pub returns-in-Err-receive_outcome-clause-came : goal.returns-in-Err-receive_outcome-clause-came
returns-in-Err-receive_outcome-clause-came g c =
    let before : SeenLink = seen_link g.L.Link.left g.L.Link.transcript g.L.Link.faults g.L.Link.ends c.args.link.now in
    let now : SeenLink = seen_link g.L.Link.left g.L.Link.transcript g.L.Link.faults g.L.Link.ends c.receive_running.new.link in
    let after : SeenLink = seen_link g.L.Link.left g.L.Link.transcript g.L.Link.faults g.L.Link.ends c.receive_outcome.new.link in
    (second_result c.taken_for-in-Err-receive_outcome.result c.args.order.now c.args.id c.in-Ok.count before now after c.in-Err-receive_outcome.stop c.taken_for-in-Err-receive_outcome.ensures c.in-Ok.ensures c.in-Err-receive_outcome.ensures).0

pub returns-in-Err-receive_outcome-clause-memory : goal.returns-in-Err-receive_outcome-clause-memory
returns-in-Err-receive_outcome-clause-memory g c =
    let before : SeenLink = seen_link g.L.Link.left g.L.Link.transcript g.L.Link.faults g.L.Link.ends c.args.link.now in
    let now : SeenLink = seen_link g.L.Link.left g.L.Link.transcript g.L.Link.faults g.L.Link.ends c.receive_running.new.link in
    let after : SeenLink = seen_link g.L.Link.left g.L.Link.transcript g.L.Link.faults g.L.Link.ends c.receive_outcome.new.link in
    (second_result c.taken_for-in-Err-receive_outcome.result c.args.order.now c.args.id c.in-Ok.count before now after c.in-Err-receive_outcome.stop c.taken_for-in-Err-receive_outcome.ensures c.in-Ok.ensures c.in-Err-receive_outcome.ensures).1
