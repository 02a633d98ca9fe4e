use Rattle.tf_ports.specs.Ports.{gives_by}
use Rattle.tf_lifetime.proofs.CarriedLemmas.{carried_stands}
use Rattle.tf_lifetime.proofs.laws.what_was_carried_over_stands.Goals as goal

pub returns : goal.returns
returns g c old new last call is migrates life =
    carried_stands g.K.Desk.state (gives_by g.W.Hand.Performer.gives g.W.Far.Performer.gives) old new last call is migrates life
