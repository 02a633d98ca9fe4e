use Rattle.std.proofs.Common.{◌+◌, ◌≤◌, length, ap, refl, subst, arith, Err}
use Rattle.tf_wire.specs.declared.messages.Response.{Response}
use Rattle.tf_sessions.specs.Talks.{SendsAll, SendsPart}
use Rattle.tf_workers.specs.Session.{Exchange, spoken, told, running, Seen, seen}
use Rattle.tf_workers.specs.Progress.{HasComeTo}
use Rattle.tf_workers.specs.Progress.HasComeTo.{begun, performed}
use Rattle.tf_workers.proofs.AnswerLemmas.{stopped, says_on, part_on, part_of, given_for, done_for}
use Rattle.tf_workers.proofs.answering.answer.Goals as goal
use Rattle.tf_desk.proofs.CountLemmas.{rises_later}

pub returns-in-Err-clause-stopped : goal.returns-in-Err-clause-stopped
returns-in-Err-clause-stopped g c =
    let before : Seen = seen g.L.Link.left g.L.Link.transcript g.L.Link.faults g.L.Link.ends g.P.Performer.did c.args.link.now c.args.hand.now in
    let now : Seen = seen g.L.Link.left g.L.Link.transcript g.L.Link.faults g.L.Link.ends g.P.Performer.did c.say.new.link c.args.hand.now in
    let reaches : HasComeTo g.P.Performer.gives c.args.frame.now before now = begun c.in-Ok.request c.in-Ok.ensures.ok refl c.in-Err.ensures.cut in
    stopped g.P.Performer.gives c.args.frame.now before now c.in-Err.stop reaches (λ is. c.in-Err.ensures.not_bad (ap Err is)) (λ is. c.in-Err.ensures.lost (ap Err is))

pub returns-in_default-order-clause-stopped : goal.returns-in_default-order-clause-stopped
returns-in_default-order-clause-stopped g c =
    let before : Seen = seen g.L.Link.left g.L.Link.transcript g.L.Link.faults g.L.Link.ends g.P.Performer.did c.args.link.now c.args.hand.now in
    let now : Seen = seen g.L.Link.left g.L.Link.transcript g.L.Link.faults g.L.Link.ends g.P.Performer.did c.say.new.link c.args.hand.now in
    begun c.in-Ok.request c.in-Ok.ensures.ok (refl {a = g.P.Performer.did c.args.hand.now}) (part_of before.link now.link (running c.in-Ok.request) c.in_default.ensures.said)

pub returns-in_default-perform-clause-stopped : goal.returns-in_default-perform-clause-stopped
returns-in_default-perform-clause-stopped g c =
    let before : Seen = seen g.L.Link.left g.L.Link.transcript g.L.Link.faults g.L.Link.ends g.P.Performer.did c.args.link.now c.args.hand.now in
    let now : Seen = seen g.L.Link.left g.L.Link.transcript g.L.Link.faults g.L.Link.ends g.P.Performer.did c.say.new.link c.perform.new.self in
    begun c.in-Ok.request c.in-Ok.ensures.ok c.in_default-perform.ensures.not_done (part_of before.link now.link (running c.in-Ok.request) c.in_default.ensures.said)

pub returns-in-Err-say-clause-stopped : goal.returns-in-Err-say-clause-stopped
returns-in-Err-say-clause-stopped g c =
    let before : Seen = seen g.L.Link.left g.L.Link.transcript g.L.Link.faults g.L.Link.ends g.P.Performer.did c.args.link.now c.args.hand.now in
    let between : Seen = seen g.L.Link.left g.L.Link.transcript g.L.Link.faults g.L.Link.ends g.P.Performer.did c.say.new.link c.args.hand.now in
    let now : Seen = seen g.L.Link.left g.L.Link.transcript g.L.Link.faults g.L.Link.ends g.P.Performer.did c.say-2.new.link c.perform.new.self in
    let exchange : Exchange = record { request = c.in-Ok.request; outcome = c.in-Ok-perform.outcome } in
    let first : SendsAll (running exchange.request) before.link between.link = c.in_default.ensures.said in
    let second : SendsPart (spoken (told exchange.request.id exchange.outcome)) between.link now.link = subst (λ (answer : Response). SendsPart (spoken answer) between.link now.link) c.told.ensures c.in-Err-say.ensures.cut in
    let reaches : HasComeTo g.P.Performer.gives c.args.frame.now before now =
    performed exchange c.in-Ok.ensures.ok
    (given_for g.P.Performer.gives c.in-Ok-order.order exchange c.in-Ok-order.ensures c.in-Ok-perform.ensures.given)
    (done_for before.did now.did c.in-Ok-order.order exchange c.in-Ok-order.ensures c.in-Ok-perform.ensures.done)
    (part_on before.link between.link now.link (running exchange.request) (spoken (told exchange.request.id exchange.outcome)) first second) (let long : length (running exchange.request) ≤ length (running exchange.request) + second.passed.count = omega arith in long) in
    stopped g.P.Performer.gives c.args.frame.now before now c.in-Err-say.stop reaches (λ is. c.in-Err-say.ensures.not_bad (ap Err is)) (λ is. rises_later before.link.faults between.link.faults now.link.faults first.faults (c.in-Err-say.ensures.lost (ap Err is)))

pub returns-clause-answered : goal.returns-clause-answered
returns-clause-answered g c =
    let before : Seen = seen g.L.Link.left g.L.Link.transcript g.L.Link.faults g.L.Link.ends g.P.Performer.did c.args.link.now c.args.hand.now in
    let between : Seen = seen g.L.Link.left g.L.Link.transcript g.L.Link.faults g.L.Link.ends g.P.Performer.did c.say.new.link c.args.hand.now in
    let now : Seen = seen g.L.Link.left g.L.Link.transcript g.L.Link.faults g.L.Link.ends g.P.Performer.did c.say-2.new.link c.perform.new.self in
    let exchange : Exchange = record { request = c.in-Ok.request; outcome = c.in-Ok-perform.outcome } in
    let second : SendsAll (spoken (told exchange.request.id exchange.outcome)) between.link now.link = subst (λ (answer : Response). SendsAll (spoken answer) between.link now.link) c.told.ensures c.in_default-say.ensures.said in record {
      exchange = exchange;
      read = c.in-Ok.ensures.ok;
      gave = given_for g.P.Performer.gives c.in-Ok-order.order exchange c.in-Ok-order.ensures c.in-Ok-perform.ensures.given;
      did = done_for before.did now.did c.in-Ok-order.order exchange c.in-Ok-order.ensures c.in-Ok-perform.ensures.done;
      says = says_on before.link between.link now.link (running exchange.request) (spoken (told exchange.request.id exchange.outcome)) c.in_default.ensures.said second;
    }
