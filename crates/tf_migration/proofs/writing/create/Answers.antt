use Rattle.std.proofs.Common.{◌≡◌, ◌∙◌, sym, ap, subst}
use Rattle.std.specs.Prelude.{IsTrue}
use Rattle.tf_desk.specs.State.{bytes_now, told_as}
use Rattle.tf_desk.proofs.StateLemmas.{bytes_stay, trusts_files, rests_lowered}
use Rattle.tf_journal.specs.Answers.{RefusesFile}
use Rattle.tf_journal.specs.Format.{is_unborn, unborn, HasSynced}
use Rattle.tf_journal.specs.declared.faults.JournalFault.{JournalFault}
use Rattle.tf_journal.specs.declared.title.Title.TheVariants.{Book2 as new_title}
use Rattle.tf_journal.proofs.OpenLemmas.{synced_told, synced_lowered}
use Rattle.tf_journal.proofs.UnbornLemmas.{unborn_found}
use Rattle.tf_migration.specs.Migrates.{new_in}
use Rattle.tf_migration.specs.Writing.{FailsToMake, desk_written}
use Rattle.tf_migration.specs.declared.writing.NewFault.TheVariants as fault
use Rattle.tf_migration.proofs.DeskLaws.{KeepsLaws, laws_of, laws_lowered}
use Rattle.tf_migration.proofs.MakeLemmas.{synced_unborn, read_kept, read_exists, read_failed, written_makes, refused_born, picked_lowered, kept_mid, still_kept, unwritten_lowered}
use Rattle.tf_migration.proofs.writing.create.Goals as goal

pub write-requires-clause-unborn : goal.write-requires-clause-unborn
write-requires-clause-unborn g c = λ told.
    let D = g.K.Desk in
    let e = c.in-Err.ensures in
    let found : new_in (bytes_now (D.state c.args.desk)) ≡ unborn = subst (λ (f : JournalFault). RefusesFile f (new_in (bytes_now (D.state c.args.desk)))) c.in-Unborn.is (e.recovers told) in
    ap (is_unborn new_title) (bytes_stay (trusts_files e.rests told)) ∙ unborn_found new_title (bytes_now (D.state c.args.desk)) found

pub write-requires-clause-stays : goal.write-requires-clause-stays
write-requires-clause-stays g c = λ told.
    let D = g.K.Desk in
    let e = c.in-Err.ensures in
    let laws : KeepsLaws D.state =
    record { tells_shown = g.met.K.Desk.tells_shown; picked_is_there = g.met.K.Desk.picked_is_there; reads_left = g.met.K.Desk.reads_left; counts_now = g.met.K.Desk.counts_now; only_now = g.met.K.Desk.only_now } in
    let found : new_in (bytes_now (D.state c.args.desk)) ≡ unborn = subst (λ (f : JournalFault). RefusesFile f (new_in (bytes_now (D.state c.args.desk)))) c.in-Unborn.is (e.recovers told) in
    synced_unborn D.state c.args.desk c.in-Err.desk laws (e.at_sync told (λ is. let no = sym c.in-Unborn.is ∙ is in cc)) told found

pub returns-in-Ok-clause-makes : goal.returns-in-Ok-clause-makes
returns-in-Ok-clause-makes g c = λ name entry seen picked.
    let D = g.K.Desk in
    let e = c.in-Ok.ensures in
    let laws : KeepsLaws D.state =
    record { tells_shown = g.met.K.Desk.tells_shown; picked_is_there = g.met.K.Desk.picked_is_there; reads_left = g.met.K.Desk.reads_left; counts_now = g.met.K.Desk.counts_now; only_now = g.met.K.Desk.only_now } in
    let end = D.state c.in-Ok.journal.desk in
    let entry_end = told_as end (g.K.Desk.state entry) in
    let desk_end = told_as end (D.state c.args.desk) in
    let picked_end = picked_lowered end e.rests.falls picked in
    let laws_end = laws_lowered end e.rests.falls (laws_of laws c.args.desk) in
    subst (λ (k : g.row.K.Denot). FailsToMake name c.args.bodies.now fault.Exists (told_as (D.state k) (g.K.Desk.state entry)) (D.state k)) (sym c.into_desk.ensures)
    (read_exists name entry_end desk_end laws_end picked_end c.args.bodies.now end (laws_of laws c.in-Ok.journal.desk) e.rests.does (λ told. synced_told (e.synced told))
    (λ told is. let no = sym (e.recovers told).1 ∙ is in cc))

pub returns-in-Unborn-clause-makes : goal.returns-in-Unborn-clause-makes
returns-in-Unborn-clause-makes g c = λ name entry seen picked.
    let D = g.K.Desk in
    let before = D.state entry in
    let e = c.in-Err.ensures in
    let laws : KeepsLaws D.state =
    record { tells_shown = g.met.K.Desk.tells_shown; picked_is_there = g.met.K.Desk.picked_is_there; reads_left = g.met.K.Desk.reads_left; counts_now = g.met.K.Desk.counts_now; only_now = g.met.K.Desk.only_now } in
    let w = c.write.ensures in
    let end = D.state (desk_written c.write.result) in
    let still : IsTrue end.tells → IsTrue (D.state c.args.desk).tells = λ told. e.rests.falls (w.goes.falls told) in
    let entry_end = told_as end before in
    let desk_end = told_as end (D.state c.args.desk) in
    let mid_end = told_as end (D.state c.in-Err.desk) in
    let laws_end = laws_lowered end still (laws_of laws c.args.desk) in
    let laws_mid = laws_lowered end w.goes.falls (laws_of laws c.in-Err.desk) in
    let picked_end = picked_lowered end still picked in
    let rests = rests_lowered end w.goes.falls e.rests.does in
    let synced : IsTrue end.tells → HasSynced desk_end mid_end =
    λ told. synced_lowered end (e.at_sync (w.goes.falls told) (λ is. let no = sym c.in-Unborn.is ∙ is in cc)) in
    let unborn_then : IsTrue end.tells → new_in (bytes_now desk_end) ≡ unborn =
    λ told. subst (λ (f : JournalFault). RefusesFile f (new_in (bytes_now (D.state c.args.desk)))) c.in-Unborn.is (e.recovers (w.goes.falls told)) in
    written_makes name entry_end desk_end laws_end picked_end mid_end laws_mid rests synced unborn_then c.args.bodies.now D.state laws c.write.result w.goes.does w.left (unwritten_lowered D.state (D.state c.in-Err.desk) end c.args.bodies.now c.write.result w.fails)
    (still_kept D.state c.in-Err.desk name before c.write.result (kept_mid name entry_end desk_end laws_end picked_end mid_end laws_mid rests synced unborn_then c.args.bodies.now) w.untouched)

pub returns-in-Disk-clause-makes : goal.returns-in-Disk-clause-makes
returns-in-Disk-clause-makes g c = λ name entry seen picked.
    let D = g.K.Desk in
    let e = c.in-Err.ensures in
    let laws : KeepsLaws D.state =
    record { tells_shown = g.met.K.Desk.tells_shown; picked_is_there = g.met.K.Desk.picked_is_there; reads_left = g.met.K.Desk.reads_left; counts_now = g.met.K.Desk.counts_now; only_now = g.met.K.Desk.only_now } in
    let end = D.state c.in-Err.desk in
    let entry_end = told_as end (g.K.Desk.state entry) in
    let desk_end = told_as end (D.state c.args.desk) in
    let picked_end = picked_lowered end e.rests.falls picked in
    let laws_end = laws_lowered end e.rests.falls (laws_of laws c.args.desk) in
    read_failed name entry_end desk_end laws_end picked_end c.args.bodies.now end (laws_of laws c.in-Err.desk) e.rests.does (λ told. synced_told (e.synced told)) (e.cause c.in-Disk.is)

pub returns-in-Memory-clause-makes : goal.returns-in-Memory-clause-makes
returns-in-Memory-clause-makes g c = λ name entry seen picked.
    let D = g.K.Desk in
    let e = c.in-Err.ensures in
    let laws : KeepsLaws D.state =
    record { tells_shown = g.met.K.Desk.tells_shown; picked_is_there = g.met.K.Desk.picked_is_there; reads_left = g.met.K.Desk.reads_left; counts_now = g.met.K.Desk.counts_now; only_now = g.met.K.Desk.only_now } in
    let end = D.state c.in-Err.desk in
    let entry_end = told_as end (g.K.Desk.state entry) in
    let desk_end = told_as end (D.state c.args.desk) in
    let picked_end = picked_lowered end e.rests.falls picked in
    let laws_end = laws_lowered end e.rests.falls (laws_of laws c.args.desk) in
    read_kept name entry_end desk_end laws_end picked_end end (laws_of laws c.in-Err.desk) e.rests.does (λ told. synced_told (e.synced told))

pub returns-in-NotABook-clause-makes : goal.returns-in-NotABook-clause-makes
returns-in-NotABook-clause-makes g c = λ name entry seen picked.
    let D = g.K.Desk in
    let e = c.in-Err.ensures in
    let laws : KeepsLaws D.state =
    record { tells_shown = g.met.K.Desk.tells_shown; picked_is_there = g.met.K.Desk.picked_is_there; reads_left = g.met.K.Desk.reads_left; counts_now = g.met.K.Desk.counts_now; only_now = g.met.K.Desk.only_now } in
    let end = D.state c.in-Err.desk in
    let entry_end = told_as end (g.K.Desk.state entry) in
    let desk_end = told_as end (D.state c.args.desk) in
    let picked_end = picked_lowered end e.rests.falls picked in
    let laws_end = laws_lowered end e.rests.falls (laws_of laws c.args.desk) in
    read_exists name entry_end desk_end laws_end picked_end c.args.bodies.now end (laws_of laws c.in-Err.desk) e.rests.does (λ told. synced_told (e.synced told))
    (λ told. refused_born c.in-Err.fault (new_in (bytes_now (D.state c.args.desk))) c.in-NotABook.is (e.recovers told))
