use Rattle.std.proofs.Common.{refl, sym, ap, ◌∙◌, subst, arith}
use Rattle.tf_ports.specs.Ports.{seen_link}
use Rattle.tf_wire.specs.Stream.{KeptFrames}
use Rattle.tf_sessions.specs.declared.incoming.Incoming.{Incoming}
use Rattle.tf_sessions.proofs.FrameLemmas.{Taking, taking_of}
use Rattle.tf_board_service.specs.Turning.{seen_calls, start_past}
use Rattle.tf_board_service.proofs.SessionLemmas.{answered, on_same, over, received, stopped}
use Rattle.tf_board_service.proofs.serving.go_on.Goals as goal

pub returns-in-Ok-clause-goes : goal.returns-in-Ok-clause-goes
returns-in-Ok-clause-goes g c before on =
    let see = seen_link g.L.Link.left g.L.Link.transcript g.L.Link.faults g.L.Link.ends in
    let calls = seen_calls c.args.server.now.pass in
    let past = start_past c.args.turnstile.now in
    let points = c.args.server.now.points.items in
    let mid : Incoming = record { frames = c.take_frame.new.self; place = c.args.incoming.now.place; refused = c.args.incoming.now.refused } in
    received c.args.number past calls before (see c.args.server.now.link) (see c.receive.new.link) points mid (ap (λ (f : KeptFrames). f.waiting) c.in_default.ensures.is.1 ∙ c.in_default.ensures.is.0)
    (on_same c.args.number past calls before (see c.args.server.now.link) points c.args.incoming.now mid c.in_default.ensures.is.1 refl refl on) c.receive.new.self c.in-Ok.ensures

pub returns-in-Err-clause-goes : goal.returns-in-Err-clause-goes
returns-in-Err-clause-goes g c before on =
    let see = seen_link g.L.Link.left g.L.Link.transcript g.L.Link.faults g.L.Link.ends in
    let calls = seen_calls c.args.server.now.pass in
    let past = start_past c.args.turnstile.now in
    let points = c.args.server.now.points.items in
    let mid : Incoming = record { frames = c.take_frame.new.self; place = c.args.incoming.now.place; refused = c.args.incoming.now.refused } in
    over c.args.number past calls before (see c.args.server.now.link) (see c.receive.new.link) points mid (ap (λ (f : KeptFrames). f.waiting) c.in_default.ensures.is.1 ∙ c.in_default.ensures.is.0)
    (on_same c.args.number past calls before (see c.args.server.now.link) points c.args.incoming.now mid c.in_default.ensures.is.1 refl refl on) c.session_end.result c.in-Err.end c.session_end.ensures c.in-Err.ensures

pub returns-in-Ok-answer_frame-clause-goes : goal.returns-in-Ok-answer_frame-clause-goes
returns-in-Ok-answer_frame-clause-goes g c before on =
    let see = seen_link g.L.Link.left g.L.Link.transcript g.L.Link.faults g.L.Link.ends in
    let taking : Taking c.args.incoming.now.frames c.take_frame.new.self c.deref.result.now
    = taking_of c.args.incoming.now.frames c.take_frame.new.self c.in-Some.frame.items c.deref.result.now c.deref.ensures.value c.in-Some.ensures.is c.in-Some.ensures.taken in
    answered c.args.number (start_past c.args.turnstile.now) (seen_calls c.args.server.now.pass) (seen_calls c.answer_frame.new.server.pass) before (see c.args.server.now.link) (see c.answer_frame.new.server.link)
    c.args.server.now.points.items c.answer_frame.new.server.points.items c.args.incoming.now c.pass.new.self c.deref.result.now
    (subst (λ (f : KeptFrames). Taking c.args.incoming.now.frames f c.deref.result.now) (sym c.pass.ensures.frames.0) taking) on c.pass.ensures.frames.1 (omega arith) c.in-Ok-answer_frame.ensures.answered

pub returns-clause-goes : goal.returns-clause-goes
returns-clause-goes g c before on =
    let see = seen_link g.L.Link.left g.L.Link.transcript g.L.Link.faults g.L.Link.ends in
    let mid : Incoming = record { frames = c.take_frame.new.self; place = c.args.incoming.now.place; refused = c.args.incoming.now.refused } in
    stopped c.args.number (start_past c.args.turnstile.now) (seen_calls c.args.server.now.pass) (seen_calls c.answer_frame.new.server.pass) before (see c.args.server.now.link) (see c.answer_frame.new.server.link)
    c.args.server.now.points.items c.answer_frame.new.server.points.items c.args.incoming.now mid c.deref.result.now
    (taking_of c.args.incoming.now.frames c.take_frame.new.self c.in-Some.frame.items c.deref.result.now c.deref.ensures.value c.in-Some.ensures.is c.in-Some.ensures.taken) on c.in-Err-answer_frame.end c.in-Err-answer_frame.ensures.stopped
