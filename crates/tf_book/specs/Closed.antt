-- What is true of a book that said its report: what was kept since the start of a session, and what was said last.
use Rattle.std.specs.Prelude.{◌≡◌, ◌⊎◌, ℕ, Bool, true, false, IsTrue, List, [], ◌++◌, Option, Some, None}
use Rattle.tf_desk.specs.Crash.{Pairs, shown_with, ShowsPrefix}
use Rattle.tf_desk.specs.State.{DeskState, Passes, Continues}
use Rattle.tf_flow.specs.Plan.{PlanValue}
use Rattle.tf_states.specs.declared.record.Entry.{Entry}
use Rattle.tf_journal.specs.Format.{bodies, recovered, LeavesBodies}
use Rattle.tf_journal.specs.declared.title.Title.TheVariants.{Book2 as book_title}
use Rattle.tf_model.specs.Plan.{outline_of}
use Rattle.tf_details.specs.Elements.{Contents, with_entries}
use Rattle.tf_book.specs.Book.{BookValue, bodies_with}
use Rattle.tf_book.specs.SessionInvariant.{StaysOffDisk, said, LeavesEntries, IsExact, HasCause}
use Rattle.tf_book.specs.declared.faults.Halt.{Halt}
use Rattle.tf_book.specs.declared.faults.Halt.TheVariants as halt

-- the closing was said; or a prefix of it, where the output failed; or nothing, for want of memory
abbrev pub IsClosing : Option (List ℕ) → List ℕ → Option Halt → Option (List ℕ) → Type 0
IsClosing before closing None now = now ≡ shown_with before closing
IsClosing before closing (Some halt.Out) now = ShowsPrefix before closing now
IsClosing before closing (Some halt.Memory) now = now ≡ before
IsClosing before closing (Some halt.Disk) now = ⊥
IsClosing before closing (Some (halt.Full size need)) now = ⊥

-- a crash while the closing was said: recovery gives all that the file holds, and a prefix of the closing was shown
abbrev pub LeavesClosing : Contents → Option (List ℕ) → List ℕ → Pairs
LeavesClosing contents shown closing image text =
    (recovered book_title image ≡ bodies (bodies_with contents [])) × ShowsPrefix shown closing (Some text)

-- a crash since the start left some of the entries with a prefix of their lines; or the whole history with all lines
-- and a prefix of the closing
abbrev pub LeavesClosed : Contents → PlanValue → Bool → (before entries : List Entry) → Option (List ℕ) → List ℕ → Pairs
LeavesClosed contents plan quiet before entries shown closing image text =
    LeavesEntries contents plan quiet before entries shown image text
    ⊎ LeavesClosing (with_entries contents entries)
    (shown_with shown (said quiet (outline_of plan) before entries)) closing image text

module _ {K : Type 0} (state : K → DeskState) where
  -- from the start of a session to a closing: what was kept, and the closing
  pub record Closed (start now : BookValue K) (closing : List ℕ) : Type 0 where
    pub entries : List Entry
    pub recorded : now.past ≡ entries ++ start.past
    pub held : now.contents ≡ with_entries start.contents entries
    pub plan : now.plan ≡ start.plan
    pub quiet : now.quiet ≡ start.quiet
    pub volatile : now.journal.volatile ≡ start.journal.volatile
    pub continues : Continues (state start.journal.desk) (state now.journal.desk)
    pub off_disk : start.journal.volatile ≡ true → StaysOffDisk (state start.journal.desk) (state now.journal.desk)
    pub text : IsClosing
        (shown_with (state start.journal.desk).shown
        (said start.quiet (outline_of start.plan) start.past entries)) closing now.halt
        (state now.journal.desk).shown
    pub crash : IsTrue (state start.journal.desk).tells → start.journal.volatile ≡ false
        → Passes (LeavesClosed start.contents start.plan start.quiet start.past entries
        (state start.journal.desk).shown closing) (state start.journal.desk)
        (state now.journal.desk)
    pub left_now : IsTrue (state start.journal.desk).tells → start.journal.volatile ≡ false
        → LeavesBodies book_title (state start.journal.desk) (bodies_with start.contents [])
        → LeavesBodies book_title (state now.journal.desk) (bodies_with start.contents entries)
    pub exact : IsTrue (state start.journal.desk).tells → start.journal.volatile ≡ false
        → IsExact (state start.journal.desk) start.contents → IsExact (state now.journal.desk) now.contents
    pub cause : HasCause now.contents start.plan now.past (state start.journal.desk)
        (state now.journal.desk) now.failed now.halt
