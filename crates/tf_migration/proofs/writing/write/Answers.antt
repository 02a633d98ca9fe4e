use Rattle.std.proofs.Common.{◌∙◌, Err, inl, refl, ap, subst}
use Rattle.std.specs.Prelude.{IsTrue}
use Rattle.tf_migration.specs.Writing.{left_by, left_added}
use Rattle.tf_migration.specs.Migrates.{whole}
use Rattle.tf_migration.proofs.DeskLaws.{KeepsLaws}
use Rattle.tf_migration.proofs.DraftLemmas.{write_goes, write_left, same_left, undrafted_left}
use Rattle.tf_migration.proofs.writing.write.Goals as goal

pub returns-in-Err-default-Disk-clause-left : goal.returns-in-Err-default-Disk-clause-left
returns-in-Err-default-Disk-clause-left g c = λ told image left.
    let D = g.K.Desk in
    let laws : KeepsLaws D.state =
    record { tells_shown = g.met.K.Desk.tells_shown; picked_is_there = g.met.K.Desk.picked_is_there; reads_left = g.met.K.Desk.reads_left; counts_now = g.met.K.Desk.counts_now; only_now = g.met.K.Desk.only_now } in
    let goes = c.in-Err-default-Disk.ensures.goes in
    inl (undrafted_left D.state c.args.desk c.in-Err-default-Disk.desk laws (c.requires.stays (goes.falls told)) told goes image left)

pub returns-in-Ok-fill-clause-goes : goal.returns-in-Ok-fill-clause-goes
returns-in-Ok-fill-clause-goes g c =
    write_goes g.K.Desk.state c.args.bodies.now whole whole c.args.desk c.in-Ok.journal.desk c.fill.new.journal.desk c.into_desk.result refl c.into_desk.ensures
    c.in-Ok.ensures.goes c.in-Ok-fill.ensures.goes

pub returns-in-Err-fill-clause-goes : goal.returns-in-Err-fill-clause-goes
returns-in-Err-fill-clause-goes g c =
    write_goes g.K.Desk.state c.args.bodies.now (left_by c.unmade.result) (left_added {A = Unit {0}} (Err c.in-Err-fill.fault)) c.args.desk c.in-Ok.journal.desk
    c.fill.new.journal.desk c.into_desk-in-Err-fill.result (ap left_by c.unmade.ensures ∙ same_left c.in-Err-fill.fault) c.into_desk-in-Err-fill.ensures
    c.in-Ok.ensures.goes c.in-Err-fill.ensures.goes

pub returns-in-Err-fill-clause-left : goal.returns-in-Err-fill-clause-left
returns-in-Err-fill-clause-left g c = λ told.
    write_left g.K.Desk.state c.args.bodies.now (left_by c.unmade.result) (left_added {A = Unit {0}} (Err c.in-Err-fill.fault)) c.fill.new.journal.desk
    c.into_desk-in-Err-fill.result (ap left_by c.unmade.ensures ∙ same_left c.in-Err-fill.fault) c.into_desk-in-Err-fill.ensures
    (c.in-Err-fill.ensures.left (subst IsTrue c.in-Err-fill.ensures.goes.on_disk.tells
    (subst (λ (k : g.row.K.Denot). IsTrue (g.K.Desk.state k).tells) c.into_desk-in-Err-fill.ensures told)))
