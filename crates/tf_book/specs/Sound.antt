-- What a book keeps of its parts.
use Rattle.std.specs.Prelude.{◌≡◌, ◌≢◌, ◌≤◌, false, Some, ℕ, List, []}
use Rattle.tf_desk.specs.State.{DeskState}
use Rattle.tf_journal.specs.Format.{SIZE_LIMIT, IsAtRest, IsOpen}
use Rattle.tf_journal.specs.declared.title.Title.TheVariants.{Book2 as book_title}
use Rattle.tf_machine.specs.Machine.{MachineValue, StandsFor}
use Rattle.tf_details.specs.Elements.{IsContents, past_of}
use Rattle.tf_book.specs.Histories.{framed_bodies}
use Rattle.tf_book.specs.Book.{BookValue, bodies_with, size_of}
use Rattle.tf_book.specs.declared.faults.Halt.TheVariants as halt

-- the machine stands for the history, whose bodies are in memory; the contents are a legal book, in which the detail
-- has the plan and the history; unless the book was halted by the disk, no append found a disk fault, the journal has
-- the contents, and where the desk tells its content the file is as the last call left it
pub record IsSoundBook {K : Type 0} (state : K → DeskState) (machine : MachineValue) (kept : List ℕ)
    (b : BookValue K) : Type 0 where
  pub stands : StandsFor machine b.past
  pub plan : machine.plan ≡ b.plan
  pub kept_is : kept ≡ framed_bodies b.past
  pub held : IsContents b.plan b.contents
  pub told : past_of b.contents ≡ b.past
  pub title : b.journal.title ≡ book_title
  pub sound : b.halt ≢ Some halt.Disk → b.journal.halted ≡ false
  pub ready : IsOpen state b.journal → IsAtRest state b.journal (bodies_with b.contents [])
  pub size : b.journal.halted ≡ false → b.journal.size ≡ size_of b.contents
  pub limit : b.journal.size ≤ SIZE_LIMIT
