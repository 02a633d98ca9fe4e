use Rattle.tf_desk.specs.State.{bytes_now}
use Rattle.tf_migration.proofs.ReadLemmas.{flow_loaded, flow_refused, synced_read}
use Rattle.tf_migration.proofs.reading.load.Goals as goal

pub returns-in-Ok-clause-flow : goal.returns-in-Ok-clause-flow
returns-in-Ok-clause-flow g c =
    flow_loaded g.K.Desk.state (λ kept. kept.items) c.in-Ok.journal (bytes_now (g.K.Desk.state c.args.desk)) c.read.result c.read.ensures.rests.falls c.in-Ok.ensures.recovers c.read.ensures.flow

pub returns-in-Ok-clause-refused : goal.returns-in-Ok-clause-refused
returns-in-Ok-clause-refused g c =
    flow_refused g.K.Desk.state c.in-Ok.journal (bytes_now (g.K.Desk.state c.args.desk)) c.read.result c.read.ensures.rests.falls c.in-Ok.ensures.recovers c.read.ensures.refused

pub returns-in-Ok-clause-at_sync : goal.returns-in-Ok-clause-at_sync
returns-in-Ok-clause-at_sync g c = synced_read g.K.Desk.state c.args.desk c.in-Ok.journal.desk c.read.result (λ told. c.in-Ok.ensures.at_sync told tt) c.read.ensures.rests
