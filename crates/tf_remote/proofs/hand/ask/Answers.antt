use Rattle.tf_ports.specs.Ports.{SeenLink, seen_link}
use Rattle.tf_remote.proofs.ReplyLemmas.{ask_result, lost_at_once}
use Rattle.tf_remote.proofs.hand.ask.Goals as goal

pub returns-in-Ok : goal.returns-in-Ok
returns-in-Ok g c =
    let before : SeenLink = seen_link g.L.Link.left g.L.Link.transcript g.L.Link.faults g.L.Link.ends c.args.link.now in
    let now : SeenLink = seen_link g.L.Link.left g.L.Link.transcript g.L.Link.faults g.L.Link.ends c.send.new.self in
    let after : SeenLink = seen_link g.L.Link.left g.L.Link.transcript g.L.Link.faults g.L.Link.ends c.receive_reply.new.link in
    ask_result c.receive_reply.result c.args.order.now c.args.id c.args.frame.now before now after c.requires.frame c.in-Ok.ensures.added c.in-Ok.ensures.keeps c.in-Ok.ensures.no_fall.0 c.in-Ok.ensures.no_fall.1
    c.receive_reply.ensures.came c.receive_reply.ensures.memory

pub returns-in-Err : goal.returns-in-Err
returns-in-Err g c =
    let before : SeenLink = seen_link g.L.Link.left g.L.Link.transcript g.L.Link.faults g.L.Link.ends c.args.link.now in
    let now : SeenLink = seen_link g.L.Link.left g.L.Link.transcript g.L.Link.faults g.L.Link.ends c.send.new.self in
    lost_at_once c.args.order.now c.args.id c.args.frame.now before now c.requires.frame c.in-Err.ensures.cut c.in-Err.ensures.keeps c.in-Err.ensures.no_fall.0 c.in-Err.ensures.no_fall.1 c.in-Err.ensures.cause
