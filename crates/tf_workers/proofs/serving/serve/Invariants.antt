use Rattle.tf_workers.specs.Progress.{HasAnsweredAll}
use Rattle.tf_workers.specs.Session.{seen}
use Rattle.tf_workers.proofs.serving.serve.Given as goal

abbrev pub invariant-loop : goal.invariant-loop
invariant-loop g l =
    HasAnsweredAll g.P.Performer.gives (seen g.L.Link.left g.L.Link.transcript g.L.Link.faults g.L.Link.ends g.P.Performer.did l.fn.link l.fn.hand)
    (seen g.L.Link.left g.L.Link.transcript g.L.Link.faults g.L.Link.ends g.P.Performer.did l.link l.hand) l.incoming
