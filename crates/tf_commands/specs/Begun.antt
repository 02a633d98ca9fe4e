-- How the details of a book are looked up, and how a run begins as a new one; no clause of the top call cites it.
use Rattle.std.specs.Prelude.{◌≡◌, ◌≤◌, ℕ, Bool, false, IsTrue, List, [], length, Option, Some, None, Result, Ok, Err}
use Rattle.tf_numbers.specs.Numbers.{Rises}
use Rattle.tf_desk.specs.Crash.{Pairs}
use Rattle.tf_desk.specs.State.{DeskState}
use Rattle.tf_flow.specs.Plan.{PlanValue}
use Rattle.tf_journal.specs.Format.{Recovered}
use Rattle.tf_journal.specs.Start.{Path, IsSet, Open, file_of}
use Rattle.tf_flow.specs.Tree.{same_name}
use Rattle.tf_model.specs.History.{flow_of}
use Rattle.tf_details.specs.Elements.{Element, details, history, number_among, CanRun, IsLegalBook}
use Rattle.tf_book.specs.Book.{BookValue, begun_contents, IsFullToBegin}
use Rattle.tf_book.specs.SessionInvariant.{IsExact}
use Rattle.tf_book.specs.Shelf.{ShelfValue, desk_of, is_volatile, IsPlaced, IsFoundAs}
use Rattle.tf_book.specs.declared.faults.BookFault.{BookFault}
use Rattle.tf_book.specs.declared.faults.BookFault.TheVariants as book_fault
use Rattle.tf_book.specs.declared.faults.Halt.{Halt}
use Rattle.tf_book.specs.declared.faults.Halt.TheVariants as halt
use Rattle.tf_book.specs.declared.shelf.Detail.{Detail}
use Rattle.tf_states.specs.declared.state.FlowState.{FlowState}
use Rattle.tf_commands.specs.declared.running.Over.{Over}
use Rattle.tf_commands.specs.Books.{book_in, book_at, HoldsNoFlow, HoldsWith, FindsSince, IsAskedFor, IsFile}

-- ---- a shelf that was loaded

module _ {K : Type 0} (state : K → DeskState) where
  -- it is kept in a file, its elements are a legal book, and stand where they are placed
  pub record IsShelf (shelf : ShelfValue K) : Type 0 where
    pub kept : is_volatile shelf.place ≡ false
    pub legal : IsLegalBook shelf.elements
    pub placed : IsPlaced state shelf.place shelf.elements

  -- the file of that name was opened, and has its elements
  pub record IsShelfOf (name : List ℕ) (entry : DeskState) (shelf : ShelfValue K) : Type 0 where
    pub opened : Open name entry (state (desk_of shelf))
    pub found : IsFile name entry (IsFoundAs shelf.place shelf.elements)

-- ---- how a detail is looked up

-- a detail that is listed has that name
abbrev pub is_listed : List ℕ → Detail → Bool
is_listed name found = same_name found.name name

-- the state of the detail of that name; or there is none of that name
abbrev pub IsNamedState : List Element → List ℕ → Option FlowState → Type 0
IsNamedState elements name None = number_among (details elements) name ≡ None
IsNamedState elements name (Some state) =
    (number : ℕ) × (number_among (details elements) name ≡ Some number) × (state ≡ flow_of (history number elements))

-- the number of the detail that is asked for; or there is none of that name, and without a name none at all
abbrev pub IsNumberAsked : Option (List ℕ) → List Element → Option ℕ → Type 0
IsNumberAsked wanted elements (Some number) = IsAskedFor wanted elements number
IsNumberAsked None elements None = details elements ≡ []
IsNumberAsked (Some name) elements None = number_among (details elements) name ≡ None

-- a book that was opened to go on: it is kept in its file, isn't halted, says its lines, and its plan can run
pub record IsReadyBook {K : Type 0} (book : BookValue K) : Type 0 where
  pub sound : book.halt ≡ None
  pub speaks : book.quiet ≡ false
  pub kept : book.journal.volatile ≡ false
  pub runs : CanRun book.plan

-- the desk that an answer has: the book's, or that of a command which is over
abbrev pub desk_found : {K : Type 0} → Result (BookValue K) (Over K) → K
desk_found (Ok book) = book.journal.desk
desk_found (Err over) = over.desk

-- ---- how one begins

-- a crash left what was found at first, or the new detail behind the elements, and nothing more was shown
abbrev pub MayBegin : Recovered → List Element → PlanValue → Option (List ℕ) → Pairs
MayBegin first elements plan shown image text =
    FindsSince first (begun_contents elements plan) [] (book_in image) × (shown ≡ Some text)

-- since a call's entry nothing was said, the output had no fault, and no count fell; and the file of that name is
-- picked and synced
pub record IsQuiet (name : List ℕ) (entry now : DeskState) : Type 0 where
  pub told : now.tells ≡ entry.tells
  pub shown : now.shown ≡ entry.shown
  pub disk : entry.disk_faults ≤ now.disk_faults
  pub out : now.out_faults ≡ entry.out_faults
  pub set : IsTrue entry.tells → IsSet name entry now

-- the book of the plan began with the empty history, as a new detail behind the elements; where the file held no flow
-- and had at most 18 bytes, each byte of it is known
pub record Begins {K : Type 0} (state : K → DeskState) (name : List ℕ) (entry : DeskState) (elements : List Element)
    (plan : PlanValue) (book : BookValue K) : Type 0 where
  pub plan_is : book.plan ≡ plan
  pub past_is : book.past ≡ []
  pub contents_is : book.contents ≡ begun_contents elements plan
  pub sound : book.halt ≡ None
  pub kept : book.journal.volatile ≡ false
  pub quiet : IsQuiet name entry (state book.journal.desk)
  pub path : IsTrue entry.tells → Path name entry (state book.journal.desk)
      (MayBegin (book_at entry name) elements plan entry.shown)
      (λ image. HoldsWith (begun_contents elements plan) [] (book_in image))
  pub exact : IsTrue entry.tells → HoldsNoFlow (book_at entry name) → length (file_of entry name) ≤ 18
      → IsExact (state book.journal.desk) (begun_contents elements plan)

-- it couldn't begin: the disk failed, or memory ran out, and the file is as it was
pub record Unbegun (name : List ℕ) (entry : DeskState) (elements : List Element) (plan : PlanValue)
    (now : DeskState) : Type 0 where
  pub quiet : IsQuiet name entry now
  pub same : ¬ (Rises entry.disk_faults now.disk_faults) → IsTrue entry.tells → file_of now name ≡ file_of entry name
  pub path : IsTrue entry.tells → Path name entry now (MayBegin (book_at entry name) elements plan entry.shown)
      (λ image. FindsSince (book_at entry name) (begun_contents elements plan) [] (book_in image))

-- the cause of a fault
abbrev pub cause_in : BookFault → Halt
cause_in book_fault.Disk = halt.Disk
cause_in book_fault.Out = halt.Out
cause_in (book_fault.Full size need) = halt.Full size need
cause_in book_fault.Memory = halt.Memory
cause_in (book_fault.Halted cause) = cause

-- why it couldn't: the disk failed, and its count rose; memory ran out; or the journal is full for the new detail, and
-- the desk stayed
abbrev pub FailsToBegin : {K : Type 0} → (K → DeskState) → List Element → PlanValue → BookFault → K → K → Type 0
FailsToBegin state elements plan book_fault.Disk old new = Rises (state old).disk_faults (state new).disk_faults
FailsToBegin state elements plan book_fault.Memory old new = Unit {0}
FailsToBegin state elements plan (book_fault.Full size need) old new =
    IsFullToBegin elements plan size need × (new ≡ old)
FailsToBegin state elements plan other old new = ⊥
