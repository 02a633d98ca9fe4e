use Rattle.tf_ports.specs.Ports.{gives_by}
use Rattle.tf_lifetime.proofs.LifeLemmas.{life_grows}
use Rattle.tf_lifetime.proofs.laws.history_only_grows.Goals as goal

pub returns : goal.returns
returns g c name first last life elements holds =
    let grown = life_grows g.K.Desk.state (gives_by g.W.Hand.Performer.gives g.W.Far.Performer.gives) name first last life elements holds in (grown.0, grown.1)
