use Rattle.tf_ports.specs.Ports.{SeenLink, seen_link}
use Rattle.tf_remote.proofs.ReplyLemmas.{nothing_asked}
use Rattle.tf_remote.proofs.RequestLemmas.{names_order}
use Rattle.tf_remote.proofs.TakeLemmas.{takes_reply, takes_served}
use Rattle.tf_remote.proofs.hand.RemoteHand.obey.Goals as goal

pub returns-in-Err-clause-asked : goal.returns-in-Err-clause-asked
returns-in-Err-clause-asked g c = λ sent. nothing_asked c.args.order.now c.args.self.now.next (seen_link g.L.Link.left g.L.Link.transcript g.L.Link.faults g.L.Link.ends c.args.self.now.link)

pub returns-clause-names : goal.returns-clause-names
returns-clause-names g c = λ sent. names_order c.args.order.now c.args.self.now.next c.requires.whole sent

pub returns-clause-replied : goal.returns-clause-replied
returns-clause-replied g c = λ sent.
    let before : SeenLink = seen_link g.L.Link.left g.L.Link.transcript g.L.Link.faults g.L.Link.ends c.args.self.now.link in
    let now : SeenLink = seen_link g.L.Link.left g.L.Link.transcript g.L.Link.faults g.L.Link.ends c.ask.new.link in
    takes_reply c.args.order.now c.args.self.now.next before now c.ask.result c.ask.ensures

pub returns-clause-served : goal.returns-clause-served
returns-clause-served g c = λ sent.
    let before : SeenLink = seen_link g.L.Link.left g.L.Link.transcript g.L.Link.faults g.L.Link.ends c.args.self.now.link in
    let now : SeenLink = seen_link g.L.Link.left g.L.Link.transcript g.L.Link.faults g.L.Link.ends c.ask.new.link in
    takes_served c.args.order.now c.args.self.now.next before now c.ask.result c.ask.ensures
