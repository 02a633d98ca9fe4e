use Rattle.tf_ports.specs.Ports.{gives_by}
use Rattle.tf_lifetime.proofs.EndLemmas.{call_ends}
use Rattle.tf_lifetime.proofs.laws.ends_as_stated.Goals as goal

pub returns : goal.returns
returns g c = call_ends g.K.Desk.state (gives_by g.W.Hand.Performer.gives g.W.Far.Performer.gives)
