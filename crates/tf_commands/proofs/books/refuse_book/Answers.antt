use Rattle.std.proofs.Common.{refl, subst, ⊎_elim}
use Rattle.tf_journal.specs.declared.faults.LoadFault.{LoadFault}
use Rattle.tf_book.specs.Book.{RefusesBook}
use Rattle.tf_commands.specs.Books.{exhausted, disk_failed_opening, old_book, no_book, book_at}
use Rattle.tf_commands.proofs.AloneLemmas.{stops_untouched, refuses_untouched}
use Rattle.tf_commands.proofs.books.refuse_book.Goals.{in-Disk, in-Memory, in-Old}
use Rattle.tf_commands.proofs.books.refuse_book.Goals as goal

pub returns-in-NotABook-clause-unopened : goal.returns-in-NotABook-clause-unopened
returns-in-NotABook-clause-unopened g c = λ name entry seen untouched refused.
    ⊎_elim (λ stops. exhausted stops)
    (λ refuses. no_book c.in-NotABook.offset c.in-NotABook.byte
    (λ telling. subst (λ (f : LoadFault). RefusesBook f (book_at (g.K.Desk.state entry) name)) c.in-NotABook.is (refused telling)) refuses)
    (c.say_no_book.ensures.refuses name entry seen untouched)

pub returns-clause-unopened : goal.returns-clause-unopened
returns-clause-unopened g c = λ name entry seen untouched refused. elim c.match-fault.branch [
  | in-Disk w ↦
      let e = w.close-status.ensures in
      rw (w.desk-is, w.status-is) (disk_failed_opening (refuses_untouched _ _ _ untouched e.closes e.says))
  | in-Memory w ↦ rw (w.desk-is, w.status-is) (exhausted (stops_untouched _ untouched refl))
  | in-Old w ↦
      let e = w.close-status-in-Old.ensures in
      rw (w.desk-is, w.status-is) (old_book (λ telling. subst (λ (f : LoadFault). RefusesBook f (book_at (g.K.Desk.state entry) name)) w.in-Old.is (refused telling)) (refuses_untouched _ _ _ untouched e.closes e.says))
]
