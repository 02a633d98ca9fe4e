use Rattle.tf_workers.specs.Session.{Seen, seen}
use Rattle.tf_workers.proofs.ProgressLemmas.{starts, gives_up}
use Rattle.tf_workers.proofs.serving.serve.Goals as goal

pub loop-init : goal.loop-init
loop-init g c =
    starts g.P.Performer.gives (seen g.L.Link.left g.L.Link.transcript g.L.Link.faults g.L.Link.ends g.P.Performer.did c.args.link.now c.args.hand.now) c.make-incoming.result c.make-incoming.ensures.frames c.make-incoming.ensures.place c.make-incoming.ensures.refused

pub loop-preserved : goal.loop-preserved
loop-preserved g c = c.in_default.ensures (seen g.L.Link.left g.L.Link.transcript g.L.Link.faults g.L.Link.ends g.P.Performer.did c.args.link.now c.args.hand.now) c.loop.invariant

pub returns-in-Err : goal.returns-in-Err
returns-in-Err g c = c.in-Err.ensures (seen g.L.Link.left g.L.Link.transcript g.L.Link.faults g.L.Link.ends g.P.Performer.did c.args.link.now c.args.hand.now) c.loop.invariant

pub returns : goal.returns
returns g c =
    let before : Seen = seen g.L.Link.left g.L.Link.transcript g.L.Link.faults g.L.Link.ends g.P.Performer.did c.args.link.now c.args.hand.now in
    let now : Seen = seen g.L.Link.left g.L.Link.transcript g.L.Link.faults g.L.Link.ends g.P.Performer.did c.loop.link c.loop.hand in
    gives_up g.P.Performer.gives before now c.loop.incoming c.loop.invariant
