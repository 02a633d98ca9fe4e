use Rattle.std.proofs.Common.{◌≡◌, ap, ◌∙◌, subst}
use Rattle.std.specs.Prelude.{IsTrue, Result, Ok, Err, IfErr}
use Rattle.tf_desk.specs.State.{bytes_now}
use Rattle.tf_desk.proofs.StateLemmas.{trusts_files, bytes_stay}
use Rattle.tf_journal.specs.Answers.{RefusesFile}
use Rattle.tf_journal.specs.Format.{unborn, is_unborn, recovered}
use Rattle.tf_journal.specs.declared.faults.JournalFault.{JournalFault}
use Rattle.tf_journal.specs.declared.title.Title.TheVariants.{Book2 as book_title}
use Rattle.tf_journal.proofs.UnbornLemmas.{unborn_found}
use Rattle.tf_journal.specs.declared.faults.LoadFault.{LoadFault}
use Rattle.tf_records.specs.Replaying.{FailsToReadBack}
use Rattle.tf_records.proofs.ReplayLemmas.{unread}
use Rattle.tf_details.specs.Elements.{CannotFollow}
use Rattle.tf_book.specs.Book.{RefusesBook}
use Rattle.tf_book.specs.Shelf.{ShelfValue, desk_after_load}
use Rattle.tf_book.proofs.shelf.Shelf.load.Goals as goal

pub unborn-requires : goal.unborn-requires
unborn-requires g c = λ told.
    let e = c.in-Err.ensures in
    let found : recovered book_title (bytes_now (g.K.Desk.state c.args.desk)) ≡ unborn =
    subst (λ (f : JournalFault). RefusesFile f (recovered book_title (bytes_now (g.K.Desk.state c.args.desk)))) c.in-Unborn.is (e.recovers told) in
    ap (is_unborn book_title) (bytes_stay (trusts_files e.rests told)) ∙ unborn_found book_title (bytes_now (g.K.Desk.state c.args.desk)) found

pub returns-in-Ok-clause-refused : goal.returns-in-Ok-clause-refused
returns-in-Ok-clause-refused g c =
    by c.read.result c.read.ensures.rests.falls c.read.ensures.fails
  where
    by : (r : Result (ShelfValue g.row.K.Denot) (g.row.K.Denot × LoadFault)) → (IsTrue (g.K.Desk.state (desk_after_load r)).tells → IsTrue (g.K.Desk.state c.in-Ok.journal.desk).tells)
        → IfErr r (λ back. FailsToReadBack g.K.Desk.state CannotFollow back.1 c.in-Ok.journal back.0)
        → IfErr r (λ back. IsTrue (g.K.Desk.state back.0).tells → RefusesBook back.1 (recovered book_title (bytes_now (g.K.Desk.state c.args.desk))))
    by (Ok shelf) falls fails = tt
    by (Err back) falls fails =
        (unread g.K.Desk.state CannotFollow book_title (recovered book_title (bytes_now (g.K.Desk.state c.args.desk))) c.args.desk c.in-Ok.journal back.1 back.0 c.in-Ok.ensures.made.0 c.in-Ok.ensures.rests c.in-Ok.ensures.recovers fails falls).0
