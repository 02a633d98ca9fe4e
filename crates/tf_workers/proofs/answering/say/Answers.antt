use Rattle.std.proofs.Common.{ℕ, List, subst}
use Rattle.tf_ports.specs.Ports.{SeenLink, seen_link}
use Rattle.tf_sessions.specs.Talks.{SendsAll, SendsPart}
use Rattle.tf_workers.proofs.ListLemmas.{printed}
use Rattle.tf_workers.proofs.answering.say.Goals as goal

pub returns-in-Ok-send-clause-said : goal.returns-in-Ok-send-clause-said
returns-in-Ok-send-clause-said g c =
    let before : SeenLink = seen_link g.L.Link.left g.L.Link.transcript g.L.Link.faults g.L.Link.ends c.args.link.now in
    let now : SeenLink = seen_link g.L.Link.left g.L.Link.transcript g.L.Link.faults g.L.Link.ends c.send.new.self in
    subst (λ (bytes : List ℕ). SendsAll bytes before now)
    (printed c.args.response.now c.deref.result.now c.print_response.new.out.items c.new-frame.result.items c.deref.ensures.value c.in-Ok.ensures.frame c.new-frame.ensures.items)
    record { left = c.send.ensures.keeps; passed = c.in-Ok-send.ensures.added; faults = c.send.ensures.no_fall.0; ends = c.send.ensures.no_fall.1 }

pub returns-clause-cut : goal.returns-clause-cut
returns-clause-cut g c =
    let before : SeenLink = seen_link g.L.Link.left g.L.Link.transcript g.L.Link.faults g.L.Link.ends c.args.link.now in
    let now : SeenLink = seen_link g.L.Link.left g.L.Link.transcript g.L.Link.faults g.L.Link.ends c.send.new.self in
    subst (λ (bytes : List ℕ). SendsPart bytes before now)
    (printed c.args.response.now c.deref.result.now c.print_response.new.out.items c.new-frame.result.items c.deref.ensures.value c.in-Ok.ensures.frame c.new-frame.ensures.items)
    record { left = c.send.ensures.keeps; passed = c.in-Err.ensures.cut; faults = c.send.ensures.no_fall.0; ends = c.send.ensures.no_fall.1 }
