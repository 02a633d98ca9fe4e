use Rattle.tf_ports.specs.Ports.{SeenLink, seen_link}
use Rattle.tf_remote.proofs.ReplyLemmas.{unread_running}
use Rattle.tf_remote.proofs.replies.receive_running.Goals as goal

pub returns : goal.returns
returns g c =
    let before : SeenLink = seen_link g.L.Link.left g.L.Link.transcript g.L.Link.faults g.L.Link.ends c.args.link.now in
    let now : SeenLink = seen_link g.L.Link.left g.L.Link.transcript g.L.Link.faults g.L.Link.ends c.receive.new.link in
    unread_running c.args.id c.deref.result.now c.in-Ok.frame.items before now c.in-Err-read.stop c.deref.ensures.value c.in-Ok.ensures c.in-Err-read.ensures
