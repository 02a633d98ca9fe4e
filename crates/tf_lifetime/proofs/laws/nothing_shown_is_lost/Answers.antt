use Rattle.std.proofs.Common.{false}
use Rattle.tf_ports.specs.Ports.{gives_by}
use Rattle.tf_lifetime.proofs.ShownLemmas.{told_later}
use Rattle.tf_lifetime.proofs.laws.nothing_shown_is_lost.Goals as goal

pub returns-clause-run : goal.returns-clause-run
returns-clause-run g c name mid last text call request back contents plan before p shown life =
    told_later g.K.Desk.state (gives_by g.W.Hand.Performer.gives g.W.Far.Performer.gives) _ name call contents plan request.quiet before p.entries _ p.closing p.ran.text (p.lasts call.told) mid text shown last life

pub returns-clause-reset : goal.returns-clause-reset
returns-clause-reset g c name mid last text call contents plan before p shown life =
    told_later g.K.Desk.state (gives_by g.W.Hand.Performer.gives g.W.Far.Performer.gives) _ name call contents plan false before p.entries _ p.closing p.put_back.text (p.lasts call.told) mid text shown last life
