use Rattle.std.proofs.Common.{refl, subst}
use Rattle.std.specs.Prelude.{IsTrue}
use Rattle.tf_desk.specs.State.{DeskState, told_as}
use Rattle.tf_journal.specs.Start.{file_of}
use Rattle.tf_journal.specs.declared.faults.LoadFault.{LoadFault}
use Rattle.tf_report.specs.Closing.{not_a_book}
use Rattle.tf_board.specs.Board.{board_in, IsNoBoard, RefusesBoard}
use Rattle.tf_board.specs.Does.{without_memory, without_disk, no_board}
use Rattle.tf_report.specs.declared.statuses.TheConstants.{UNHIRED, UNREAD}
use Rattle.tf_board.proofs.EndLemmas.{unopened_stops, no_board_stays, concludes_none, never_said, never_told}
use Rattle.tf_board.proofs.ending.end_unopened.Goals as goal

pub returns-in-Disk-clause-ends : goal.returns-in-Disk-clause-ends
returns-in-Disk-clause-ends g c = λ name entry seen u. without_disk (c.end_with.ensures.unopened name c.args.fault entry seen u)

pub returns-in-NotABook-clause-ends : goal.returns-in-NotABook-clause-ends
returns-in-NotABook-clause-ends g c = λ name entry seen u.
    let D = g.K.Desk in
    let was : DeskState = told_as (D.state seen) (D.state entry) in
    let bad_is : IsTrue was.tells → IsNoBoard (board_in (file_of was name)) c.in-NotABook.offset c.in-NotABook.byte =
    λ told. subst (λ (f : LoadFault). RefusesBoard f (board_in (file_of was name))) c.in-NotABook.is (u.refused told) in
    let ends = c.end_with_text.ensures.unopened (not_a_book c.in-NotABook.offset c.in-NotABook.byte) c.not_a_book_text-text.ensures name c.args.fault entry seen u in
    no_board c.in-NotABook.offset c.in-NotABook.byte bad_is (λ told. no_board_stays _ _ _ _ (bad_is told) (ends.stays told).file) ends

pub returns-in-Memory-clause-ends : goal.returns-in-Memory-clause-ends
returns-in-Memory-clause-ends g c = λ name entry seen u. without_memory refl (unopened_stops u refl)

pub returns-in-Memory-clause-concludes : goal.returns-in-Memory-clause-concludes
returns-in-Memory-clause-concludes g c = concludes_none 9 (λ is. cc)

pub returns-in-Disk-clause-apart : goal.returns-in-Disk-clause-apart
returns-in-Disk-clause-apart g c =
    (never_said UNREAD c.end_with.ensures.status (λ no. cc) (λ no. cc), never_said UNHIRED c.end_with.ensures.status (λ no. cc) (λ no. cc))

pub returns-in-NotABook-clause-apart : goal.returns-in-NotABook-clause-apart
returns-in-NotABook-clause-apart g c = (
  never_told UNREAD c.end_with_text.ensures.status (λ no. cc) (λ no. cc) (λ no. cc),
  never_told UNHIRED c.end_with_text.ensures.status (λ no. cc) (λ no. cc) (λ no. cc),
)
