use Rattle.std.proofs.Common.{sym, subst}
use Rattle.tf_migration.specs.Reading.{HasReadAllOf}
use Rattle.tf_migration.proofs.ReadLemmas.{read_all}
use Rattle.tf_migration.proofs.reading.read.Goals as goal

pub returns-in-Of-clause-flow : goal.returns-in-Of-clause-flow
returns-in-Of-clause-flow g c =
    subst (λ (k : g.row.K.Denot). HasReadAllOf g.K.Desk.state c.args.journal k c.in-Of.flow.bodies.items) (sym c.into_desk-in-Of.ensures)
    (read_all g.K.Desk.state c.args.journal _ _ c.in-Of.flow c.in-Of.is c.in-Ok.ensures.read)
