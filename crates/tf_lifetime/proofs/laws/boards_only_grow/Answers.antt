use Rattle.tf_ports.specs.Ports.{gives_by}
use Rattle.tf_lifetime.proofs.LifeLemmas.{life_adds}
use Rattle.tf_lifetime.proofs.OwnerLemmas.{life_adds_legally}
use Rattle.tf_lifetime.proofs.laws.boards_only_grow.Goals as goal

pub returns-clause-grows : goal.returns-clause-grows
returns-clause-grows g c = life_adds g.K.Desk.state (gives_by g.W.Hand.Performer.gives g.W.Far.Performer.gives)

pub returns-clause-legal : goal.returns-clause-legal
returns-clause-legal g c = life_adds_legally g.K.Desk.state (gives_by g.W.Hand.Performer.gives g.W.Far.Performer.gives)
