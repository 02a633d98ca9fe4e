use Rattle.std.proofs.Common.{◌++◌, None, get_or}
use Rattle.tf_model.specs.Plan.{outline_of}
use Rattle.tf_details.specs.Elements.{history, with_entries}
use Rattle.tf_ports.specs.Ports.{gives_by}
use Rattle.tf_commands.specs.Books.{HasStopped}
use Rattle.tf_lifetime.proofs.LifeLemmas.{life_grows}
use Rattle.tf_lifetime.proofs.OrderLemmas.{first_later}
use Rattle.tf_lifetime.proofs.laws.orders_stand_in_the_book.Goals as goal

pub returns : goal.returns
returns g c name mid last call request back contents plan before p holds life hand =
    let grown = life_grows g.K.Desk.state (gives_by g.W.Hand.Performer.gives g.W.Far.Performer.gives) name mid last life (with_entries contents p.entries).elements holds in (
      grown.0,
      grown.1,
      first_later (HasStopped call.status) (outline_of plan) before (p.entries ++ before) (history contents.number grown.0) hand (get_or back hand None) (p.orders_given hand),
    )
