use Rattle.std.proofs.Common.{subst}
use Rattle.tf_journal.specs.Format.{Held}
use Rattle.tf_journal.specs.Reading.{OnlyReads}
use Rattle.tf_journal.proofs.ReadingLemmas.{read_only}
use Rattle.tf_journal.proofs.journal.Journal.body_through.Goals as goal

pub returns-clause-reads : goal.returns-clause-reads
returns-clause-reads g c =
    let p = c.self.inside in
    let view : Held g.row.K.Denot = record { desk = p.desk; title = p.title; size = p.size; halted = p.halted; volatile = p.volatile } in
    let new = c.read_record.new.desk in
    subst (λ (j : Held g.row.K.Denot). OnlyReads {K = g.row.K.Denot} g.K.Desk.state j (record view { desk = new })) c.self.view_is
    (read_only g.K.Desk.state view new c.read_record.ensures.rests)
