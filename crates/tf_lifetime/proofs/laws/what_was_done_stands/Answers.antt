use Rattle.tf_ports.specs.Ports.{gives_by}
use Rattle.tf_lifetime.proofs.DoneLemmas.{done_stands}
use Rattle.tf_lifetime.proofs.laws.what_was_done_stands.Goals as goal

pub returns : goal.returns
returns g c name last = done_stands g.K.Desk.state (gives_by g.W.Hand.Performer.gives g.W.Far.Performer.gives) name last
