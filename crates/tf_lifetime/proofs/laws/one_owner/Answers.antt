use Rattle.tf_ports.specs.Ports.{gives_by}
use Rattle.tf_lifetime.proofs.OwnerLemmas.{handed_on}
use Rattle.tf_lifetime.proofs.laws.one_owner.Goals as goal

pub returns : goal.returns
returns g c = handed_on g.K.Desk.state (gives_by g.W.Hand.Performer.gives g.W.Far.Performer.gives)
