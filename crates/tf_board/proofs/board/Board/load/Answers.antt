use Rattle.std.proofs.Common.{◌≡◌, ◌∙◌, ap, subst, sym}
use Rattle.std.specs.Prelude.{IsTrue}
use Rattle.tf_desk.specs.State.{bytes_now, told_as}
use Rattle.tf_desk.proofs.StateLemmas.{bytes_stay, trusts_files, trusts_rests_on, trusts_goes}
use Rattle.tf_journal.specs.Format.{is_unborn, unborn, recovered}
use Rattle.tf_journal.specs.Answers.{RefusesFile}
use Rattle.tf_journal.specs.declared.faults.JournalFault.{JournalFault}
use Rattle.tf_journal.specs.declared.faults.LoadFault.TheVariants as load_fault
use Rattle.tf_journal.specs.declared.title.Title.TheVariants.{Jobs as jobs_title}
use Rattle.tf_journal.proofs.UnbornLemmas.{unborn_found}
use Rattle.tf_records.specs.Refusing.{no_journal}
use Rattle.tf_board.specs.Board.{board_in, desk_loaded}
use Rattle.tf_board.proofs.DeskLaws.{KeepsLaws}
use Rattle.tf_board.proofs.LoadLemmas.{read_loaded, unread_unloaded, made_loaded, unmade_unloaded, made_goes}
use Rattle.tf_board.proofs.OpeningLemmas.{read_opens, made_opens, unread_opens}
use Rattle.tf_board.proofs.board.Board.load.Goals as goal

pub read-requires-clause-ready : goal.read-requires-clause-ready
read-requires-clause-ready g c = λ opened.
    let held = c.in-Ok.ensures.recovers opened.told in (held.0, held.2)

pub create-requires : goal.create-requires
create-requires g c = λ told.
    let D = g.K.Desk in
    let e = c.in-Err.ensures in
    let found = subst (λ (f : JournalFault). RefusesFile f (recovered jobs_title (bytes_now (D.state c.args.desk)))) c.in-Unborn.is (e.recovers told) in
    ap (is_unborn jobs_title) (bytes_stay (trusts_files e.rests told)) ∙ unborn_found jobs_title (bytes_now (D.state c.args.desk)) found

-- ---- a journal was read

pub returns-in-Ok-clause-loaded : goal.returns-in-Ok-clause-loaded
returns-in-Ok-clause-loaded g c =
    let e = c.in-Ok.ensures in
    let r = c.read.ensures in
    read_loaded g.K.Desk.state c.args.desk c.in-Ok.journal c.read.result e.recovers r.rests r.fresh r.loads r.at_rest

pub returns-in-Ok-clause-fails : goal.returns-in-Ok-clause-fails
returns-in-Ok-clause-fails g c =
    let e = c.in-Ok.ensures in
    unread_unloaded g.K.Desk.state c.args.desk c.in-Ok.journal c.read.result e.made.0 e.rests e.recovers c.read.ensures.rests c.read.ensures.fails

pub returns-in-Ok-clause-unchanged : goal.returns-in-Ok-clause-unchanged
returns-in-Ok-clause-unchanged g c = λ told born. trusts_rests_on c.in-Ok.ensures.rests c.read.ensures.rests

pub returns-in-Ok-clause-goes : goal.returns-in-Ok-clause-goes
returns-in-Ok-clause-goes g c = trusts_goes (trusts_rests_on c.in-Ok.ensures.rests c.read.ensures.rests)

pub returns-in-Ok-clause-opens : goal.returns-in-Ok-clause-opens
returns-in-Ok-clause-opens g c = λ name entry p.
    let D = g.K.Desk in
    let e = c.in-Ok.ensures in
    let r = c.read.ensures in
    let laws : KeepsLaws D.state =
    record { tells_shown = g.met.K.Desk.tells_shown; picked_is_there = g.met.K.Desk.picked_is_there; reads_left = g.met.K.Desk.reads_left; counts_now = g.met.K.Desk.counts_now; only_now = g.met.K.Desk.only_now } in
    read_opens D.state laws name (told_as (D.state c.args.desk) (D.state entry)) c.args.desk p c.in-Ok.journal.desk e.rests (λ told. e.at_sync told tt) c.read.result r.rests
    (read_loaded D.state c.args.desk c.in-Ok.journal c.read.result e.recovers r.rests r.fresh r.loads r.at_rest)
    (unread_unloaded D.state c.args.desk c.in-Ok.journal c.read.result e.made.0 e.rests e.recovers r.rests r.fails)

-- ---- an unborn file

pub returns-in-Unborn-clause-loaded : goal.returns-in-Unborn-clause-loaded
returns-in-Unborn-clause-loaded g c =
    let D = g.K.Desk in
    let e = c.in-Err.ensures in
    let r = c.create.ensures in
    made_loaded D.state c.args.desk c.in-Err.desk e.rests
    (λ told. subst (λ (f : JournalFault). RefusesFile f (board_in (bytes_now (D.state c.args.desk)))) c.in-Unborn.is (e.recovers told))
    c.create.result r.goes r.fresh r.none r.at_rest

pub returns-in-Unborn-clause-fails : goal.returns-in-Unborn-clause-fails
returns-in-Unborn-clause-fails g c =
    let D = g.K.Desk in
    let e = c.in-Err.ensures in
    unmade_unloaded D.state c.args.desk c.in-Err.desk e.rests
    (λ told. subst (λ (f : JournalFault). RefusesFile f (board_in (bytes_now (D.state c.args.desk)))) c.in-Unborn.is (e.recovers told))
    c.create.result c.create.ensures.fails

pub returns-in-Unborn-clause-unchanged : goal.returns-in-Unborn-clause-unchanged
returns-in-Unborn-clause-unchanged g c = λ told born.
    absurd (born (subst (λ (f : JournalFault). RefusesFile f (board_in (bytes_now (g.K.Desk.state c.args.desk)))) c.in-Unborn.is (c.in-Err.ensures.recovers (c.create.ensures.goes.falls told))))

pub returns-in-Unborn-clause-goes : goal.returns-in-Unborn-clause-goes
returns-in-Unborn-clause-goes g c =
    let D = g.K.Desk in
    let e = c.in-Err.ensures in
    made_goes D.state c.args.desk c.in-Err.desk e.rests
    (λ told. subst (λ (f : JournalFault). RefusesFile f (board_in (bytes_now (D.state c.args.desk)))) c.in-Unborn.is (e.recovers told))
    (desk_loaded c.create.result) c.create.ensures.goes

pub returns-in-Unborn-clause-opens : goal.returns-in-Unborn-clause-opens
returns-in-Unborn-clause-opens g c = λ name entry p.
    let D = g.K.Desk in
    let e = c.in-Err.ensures in
    let r = c.create.ensures in
    let unborn_then : IsTrue (D.state c.in-Err.desk).tells → board_in (bytes_now (D.state c.args.desk)) ≡ unborn =
    λ told. subst (λ (f : JournalFault). RefusesFile f (board_in (bytes_now (D.state c.args.desk)))) c.in-Unborn.is (e.recovers told) in
    let laws : KeepsLaws D.state =
    record { tells_shown = g.met.K.Desk.tells_shown; picked_is_there = g.met.K.Desk.picked_is_there; reads_left = g.met.K.Desk.reads_left; counts_now = g.met.K.Desk.counts_now; only_now = g.met.K.Desk.only_now } in
    made_opens D.state laws name (told_as (D.state c.args.desk) (D.state entry)) c.args.desk p c.in-Err.desk e.rests (λ told. e.at_sync told (λ is. let no = sym c.in-Unborn.is ∙ is in cc)) unborn_then
    c.create.result r.goes
    (made_loaded D.state c.args.desk c.in-Err.desk e.rests unborn_then c.create.result r.goes r.fresh r.none r.at_rest) r.none
    (unmade_unloaded D.state c.args.desk c.in-Err.desk e.rests unborn_then c.create.result r.fails)

-- ---- no journal was read

pub returns-in-Disk-clause-fails : goal.returns-in-Disk-clause-fails
returns-in-Disk-clause-fails g c =
    let D = g.K.Desk in
    let e = c.in-Err.ensures in
    record { refused = λ told. tt; cause = λ is. e.cause c.in-Disk.is; new_format = λ is. cc }

pub returns-in-Disk-clause-goes : goal.returns-in-Disk-clause-goes
returns-in-Disk-clause-goes g c = trusts_goes c.in-Err.ensures.rests

pub returns-in-Disk-clause-opens : goal.returns-in-Disk-clause-opens
returns-in-Disk-clause-opens g c = λ name entry p.
    let D = g.K.Desk in
    let e = c.in-Err.ensures in
    let laws : KeepsLaws D.state =
    record { tells_shown = g.met.K.Desk.tells_shown; picked_is_there = g.met.K.Desk.picked_is_there; reads_left = g.met.K.Desk.reads_left; counts_now = g.met.K.Desk.counts_now; only_now = g.met.K.Desk.only_now } in
    unread_opens D.state laws name (told_as (D.state c.args.desk) (D.state entry)) c.args.desk p c.in-Err.desk load_fault.Disk e.rests e.synced
    (record { refused = λ told. tt; cause = λ is. e.cause c.in-Disk.is; new_format = λ is. cc })

pub returns-in-Memory-clause-fails : goal.returns-in-Memory-clause-fails
returns-in-Memory-clause-fails g c =
    let D = g.K.Desk in
    let e = c.in-Err.ensures in
    record { refused = λ told. tt; cause = λ is. absurd (cc); new_format = λ is. cc }

pub returns-in-Memory-clause-goes : goal.returns-in-Memory-clause-goes
returns-in-Memory-clause-goes g c = trusts_goes c.in-Err.ensures.rests

pub returns-in-Memory-clause-opens : goal.returns-in-Memory-clause-opens
returns-in-Memory-clause-opens g c = λ name entry p.
    let D = g.K.Desk in
    let e = c.in-Err.ensures in
    let laws : KeepsLaws D.state =
    record { tells_shown = g.met.K.Desk.tells_shown; picked_is_there = g.met.K.Desk.picked_is_there; reads_left = g.met.K.Desk.reads_left; counts_now = g.met.K.Desk.counts_now; only_now = g.met.K.Desk.only_now } in
    unread_opens D.state laws name (told_as (D.state c.args.desk) (D.state entry)) c.args.desk p c.in-Err.desk load_fault.Memory e.rests e.synced
    (record { refused = λ told. tt; cause = λ is. absurd (cc); new_format = λ is. cc })

pub returns-in-NotABook-clause-fails : goal.returns-in-NotABook-clause-fails
returns-in-NotABook-clause-fails g c =
    let D = g.K.Desk in
    let e = c.in-Err.ensures in
    record { refused = λ told. no_journal (subst (λ (f : JournalFault). RefusesFile f (board_in (bytes_now (D.state c.args.desk)))) c.in-NotABook.is (e.recovers told)); cause = λ is. absurd (cc); new_format = λ is. cc }

pub returns-in-NotABook-clause-goes : goal.returns-in-NotABook-clause-goes
returns-in-NotABook-clause-goes g c = trusts_goes c.in-Err.ensures.rests

pub returns-in-NotABook-clause-opens : goal.returns-in-NotABook-clause-opens
returns-in-NotABook-clause-opens g c = λ name entry p.
    let D = g.K.Desk in
    let e = c.in-Err.ensures in
    let laws : KeepsLaws D.state =
    record { tells_shown = g.met.K.Desk.tells_shown; picked_is_there = g.met.K.Desk.picked_is_there; reads_left = g.met.K.Desk.reads_left; counts_now = g.met.K.Desk.counts_now; only_now = g.met.K.Desk.only_now } in
    unread_opens D.state laws name (told_as (D.state c.args.desk) (D.state entry)) c.args.desk p c.in-Err.desk (load_fault.NotABook c.in-NotABook.offset c.in-NotABook.byte) e.rests e.synced
    (record { refused = λ told. no_journal (subst (λ (f : JournalFault). RefusesFile f (board_in (bytes_now (D.state c.args.desk)))) c.in-NotABook.is (e.recovers told)); cause = λ is. absurd (cc); new_format = λ is. cc })
