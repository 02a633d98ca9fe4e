use Rattle.std.proofs.Common.{true, IsTrue, sym, subst}
use Rattle.tf_desk.proofs.StateLemmas.{on_disk_told}
use Rattle.tf_journal.specs.Adding.{Publishes, PublishesAtMost}
use Rattle.tf_journal.specs.Format.{Held, IsDrafted}
use Rattle.tf_journal.proofs.DraftLemmas.{published, published_at_most}
use Rattle.tf_journal.proofs.journal.Journal.publish.Goals as goal

pub returns-in-Ok-clause-publishes : goal.returns-in-Ok-clause-publishes
returns-in-Ok-clause-publishes g c =
    let S = g.K.Desk.state in
    let p = c.self.inside in
    let view : Held g.row.K.Denot = record { desk = p.desk; title = p.title; size = p.size; halted = p.halted; volatile = p.volatile } in
    let new = c.write_synced.new.desk in
    λ ready held drafted.
    let told : IsTrue (S p.desk).tells = subst (λ (j : Held g.row.K.Denot). IsTrue (S j.desk).tells) (sym c.self.view_is) ready.told in
    let before = subst (λ (j : Held g.row.K.Denot). IsDrafted {K = g.row.K.Denot} S j held) (sym c.self.view_is) drafted in
    subst (λ (j : Held g.row.K.Denot). Publishes {K = g.row.K.Denot} S j (record view { desk = new }) held) c.self.view_is
    (published S view new held before (c.in-Ok.ensures.written told) (c.in-Ok.ensures.durable told)
    (λ image text left. g.met.K.Desk.only_now new image text (on_disk_told c.write_synced.ensures.goes.on_disk told) left))

pub returns-in-Ok-clause-at_most : goal.returns-in-Ok-clause-at_most
returns-in-Ok-clause-at_most g c =
    let S = g.K.Desk.state in
    let p = c.self.inside in
    let view : Held g.row.K.Denot = record { desk = p.desk; title = p.title; size = p.size; halted = p.halted; volatile = p.volatile } in
    let new = c.write_synced.new.desk in
    let next : Held g.row.K.Denot = record view { desk = new } in
    λ ready held drafted.
    let told : IsTrue (S p.desk).tells = subst (λ (j : Held g.row.K.Denot). IsTrue (S j.desk).tells) (sym c.self.view_is) ready.told in
    let still : IsTrue (S new).tells = on_disk_told c.write_synced.ensures.goes.on_disk told in
    let before = subst (λ (j : Held g.row.K.Denot). IsDrafted {K = g.row.K.Denot} S j held) (sym c.self.view_is) drafted in
    subst (λ (j : Held g.row.K.Denot). PublishesAtMost {K = g.row.K.Denot} S j next held) c.self.view_is
    (published_at_most S view next held before (c.write_synced.ensures.goes.on_disk.crash told) (g.met.K.Desk.tells_shown new still)
    (λ start image text le now. g.met.K.Desk.counts_now new start image text still le now)
    (λ image text was. g.met.K.Desk.only_now p.desk image text told was))

pub returns-in-Err-clause-at_most : goal.returns-in-Err-clause-at_most
returns-in-Err-clause-at_most g c =
    let S = g.K.Desk.state in
    let p = c.self.inside in
    let view : Held g.row.K.Denot = record { desk = p.desk; title = p.title; size = p.size; halted = p.halted; volatile = p.volatile } in
    let new = c.write_synced.new.desk in
    let next : Held g.row.K.Denot = record view { desk = new; halted = true } in
    λ ready held drafted.
    let told : IsTrue (S p.desk).tells = subst (λ (j : Held g.row.K.Denot). IsTrue (S j.desk).tells) (sym c.self.view_is) ready.told in
    let still : IsTrue (S new).tells = on_disk_told c.write_synced.ensures.goes.on_disk told in
    let before = subst (λ (j : Held g.row.K.Denot). IsDrafted {K = g.row.K.Denot} S j held) (sym c.self.view_is) drafted in
    subst (λ (j : Held g.row.K.Denot). PublishesAtMost {K = g.row.K.Denot} S c.args.self.now j held) (sym c.halt.ensures.halted)
    (subst (λ (j : Held g.row.K.Denot). PublishesAtMost {K = g.row.K.Denot} S j next held) c.self.view_is
    (published_at_most S view next held before (c.write_synced.ensures.goes.on_disk.crash told) (g.met.K.Desk.tells_shown new still)
    (λ start image text le now. g.met.K.Desk.counts_now new start image text still le now)
    (λ image text was. g.met.K.Desk.only_now p.desk image text told was)))
