use Rattle.tf_ports.specs.Ports.{gives_by}
use Rattle.tf_lifetime.proofs.LifeLemmas.{life_grows}
use Rattle.tf_lifetime.proofs.laws.every_entry_is_a_step.Goals as goal

pub returns : goal.returns
returns g c = life_grows g.K.Desk.state (gives_by g.W.Hand.Performer.gives g.W.Far.Performer.gives)
