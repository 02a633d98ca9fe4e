use Rattle.std.proofs.Common.{◌≡◌, refl, sym, ap, arith, subst}
use Rattle.tf_sessions.specs.declared.incoming.Incoming.{Incoming}
use Rattle.tf_sessions.proofs.FrameLemmas.{Taking, taking_of}
use Rattle.tf_wire.specs.Stream.{KeptFrames}
use Rattle.tf_workers.specs.Session.{Seen, seen}
use Rattle.tf_workers.specs.Progress.{StopsFor}
use Rattle.tf_workers.specs.declared.answering.Stop.{Stop}
use Rattle.tf_workers.proofs.ProgressLemmas.{answered, received_or_over, stopped_bad, stopped_lost, stopped_memory}
use Rattle.tf_workers.proofs.serving.go_on.Goals as goal

pub returns-in_default : goal.returns-in_default
returns-in_default g c before on =
    let now : Seen = seen g.L.Link.left g.L.Link.transcript g.L.Link.faults g.L.Link.ends g.P.Performer.did c.args.link.now c.args.hand.now in
    let after : Seen = seen g.L.Link.left g.L.Link.transcript g.L.Link.faults g.L.Link.ends g.P.Performer.did c.receive.new.link c.args.hand.now in
    let mid : Incoming = record { frames = c.take_frame.new.self; place = c.args.incoming.now.place; refused = c.args.incoming.now.refused } in
    let same : mid ≡ c.args.incoming.now = ap (λ (kept : KeptFrames). record { frames = kept; place = c.args.incoming.now.place; refused = c.args.incoming.now.refused }) c.in_default.ensures.is.1 in
    received_or_over c.receive.result g.P.Performer.gives before now after c.args.incoming.now mid c.receive.new.self same c.in_default.ensures.is.0 refl c.receive.ensures on

pub returns-in-Ok : goal.returns-in-Ok
returns-in-Ok g c before on =
    let now : Seen = seen g.L.Link.left g.L.Link.transcript g.L.Link.faults g.L.Link.ends g.P.Performer.did c.args.link.now c.args.hand.now in
    let after : Seen = seen g.L.Link.left g.L.Link.transcript g.L.Link.faults g.L.Link.ends g.P.Performer.did c.answer.new.link c.answer.new.hand in
    answered g.P.Performer.gives before now after c.args.incoming.now c.pass.new.self c.deref.result.now
    (subst (λ (kept : KeptFrames). Taking c.args.incoming.now.frames kept c.deref.result.now) (sym c.pass.ensures.frames.0)
    (taking_of c.args.incoming.now.frames c.take_frame.new.self c.in-Some.frame.items c.deref.result.now c.deref.ensures.value c.in-Some.ensures.is c.in-Some.ensures.taken))
    c.pass.ensures.frames.1 (omega (arith, c.pass.ensures.place, c.len.ensures, c.deref.ensures.len)) c.in-Ok.ensures.answered on

pub returns-in-Err-Bad : goal.returns-in-Err-Bad
returns-in-Err-Bad g c before on =
    let now : Seen = seen g.L.Link.left g.L.Link.transcript g.L.Link.faults g.L.Link.ends g.P.Performer.did c.args.link.now c.args.hand.now in
    let after : Seen = seen g.L.Link.left g.L.Link.transcript g.L.Link.faults g.L.Link.ends g.P.Performer.did c.answer.new.link c.answer.new.hand in
    let mid : Incoming = record { frames = c.take_frame.new.self; place = c.args.incoming.now.place; refused = c.args.incoming.now.refused } in
    stopped_bad g.P.Performer.gives before now after c.args.incoming.now mid c.deref.result.now
    (taking_of c.args.incoming.now.frames c.take_frame.new.self c.in-Some.frame.items c.deref.result.now c.deref.ensures.value c.in-Some.ensures.is c.in-Some.ensures.taken) (subst (λ (why : Stop). StopsFor g.P.Performer.gives c.deref.result.now now after why) c.in-Err-Bad.field-0-is c.in-Err-Bad.ensures.stopped) on

pub returns-in-Err-Lost : goal.returns-in-Err-Lost
returns-in-Err-Lost g c before on =
    let now : Seen = seen g.L.Link.left g.L.Link.transcript g.L.Link.faults g.L.Link.ends g.P.Performer.did c.args.link.now c.args.hand.now in
    let after : Seen = seen g.L.Link.left g.L.Link.transcript g.L.Link.faults g.L.Link.ends g.P.Performer.did c.answer.new.link c.answer.new.hand in
    let mid : Incoming = record { frames = c.take_frame.new.self; place = c.args.incoming.now.place; refused = c.args.incoming.now.refused } in
    stopped_lost g.P.Performer.gives before now after c.args.incoming.now mid c.deref.result.now
    (taking_of c.args.incoming.now.frames c.take_frame.new.self c.in-Some.frame.items c.deref.result.now c.deref.ensures.value c.in-Some.ensures.is c.in-Some.ensures.taken) (subst (λ (why : Stop). StopsFor g.P.Performer.gives c.deref.result.now now after why) c.in-Err-Lost.field-0-is c.in-Err-Lost.ensures.stopped) on

pub returns : goal.returns
returns g c before on =
    let now : Seen = seen g.L.Link.left g.L.Link.transcript g.L.Link.faults g.L.Link.ends g.P.Performer.did c.args.link.now c.args.hand.now in
    let after : Seen = seen g.L.Link.left g.L.Link.transcript g.L.Link.faults g.L.Link.ends g.P.Performer.did c.answer.new.link c.answer.new.hand in
    let mid : Incoming = record { frames = c.take_frame.new.self; place = c.args.incoming.now.place; refused = c.args.incoming.now.refused } in
    stopped_memory g.P.Performer.gives before now after c.args.incoming.now mid c.deref.result.now
    (taking_of c.args.incoming.now.frames c.take_frame.new.self c.in-Some.frame.items c.deref.result.now c.deref.ensures.value c.in-Some.ensures.is c.in-Some.ensures.taken) (subst (λ (why : Stop). StopsFor g.P.Performer.gives c.deref.result.now now after why) c.in-Err-Memory.field-0-is c.in-Err-Memory.ensures.stopped) on
