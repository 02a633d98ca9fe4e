-- What a shelf's start answers, and what a crash leaves of it.
use Rattle.std.specs.Prelude.{◌≡◌, ◌≤◌, ◌<◌, ◌⊎◌, List, ◌∷◌, ◌++◌, [], ℕ, ◌+◌, false, length, Option, Some, Result, Ok, Err, Bool, IsTrue, None}
use Rattle.tf_numbers.specs.Numbers.{Rises}
use Rattle.tf_desk.specs.Crash.{Pairs}
use Rattle.tf_desk.specs.State.{DeskState, bytes_now}
use Rattle.tf_journal.specs.Format.{SIZE_LIMIT, Recovered, bodies, journal_bytes, recovered, Held, IsAtRest, IsOpen}
use Rattle.tf_journal.specs.declared.title.Title.TheVariants.{Book2 as book_title}
use Rattle.tf_flow.specs.Plan.{PlanValue}
use Rattle.tf_details.specs.Elements.{Element, detail, IsHistoryOf, details, detail_name, number_among, bodies_of, book_size, element_bytes, Contents}
use Rattle.tf_book.specs.Book.{BookValue, begun_contents, detail_body, IsFullToBegin}
use Rattle.tf_book.specs.Shelf.{ShelfValue, is_volatile, IsFoundAs}
use Rattle.tf_book.specs.declared.faults.BookFault.{BookFault}
use Rattle.tf_book.specs.declared.faults.BookFault.TheVariants as fault
use Rattle.tf_book.specs.declared.shelf.Place.{Place}
use Rattle.tf_book.specs.declared.shelf.Place.TheVariants as place

-- the desk that an answer has: the book's, or the one that came back with a fault
abbrev pub desk_started : {K F : Type 0} → Result (BookValue K) (K × F) → K
desk_started (Ok book) = book.journal.desk
desk_started (Err back) = back.0

-- the book of the plan before its first entry, a new detail behind the elements
pub record IsBegun {K : Type 0} (shelf : ShelfValue K) (plan : PlanValue) (quiet : Bool)
    (book : BookValue K) : Type 0 where
  pub plan_is : book.plan ≡ plan
  pub past : book.past ≡ []
  pub contents : book.contents ≡ begun_contents shelf.elements plan
  pub volatile : book.journal.volatile ≡ is_volatile shelf.place
  pub quiet_is : book.quiet ≡ quiet
  pub halt : book.halt ≡ None
  pub failed : book.failed ≡ None
  pub limit : book.limit ≡ None

-- what recovery finds of the file while a body is added to the elements: what it found before; the elements alone,
-- where the file was unborn; or the body behind them
abbrev pub FindsAdded : {K : Type 0} → Place K → List Element → List ℕ → Recovered → Type 0
FindsAdded at elements body found =
    IsFoundAs at elements found ⊎
    ((found ≡ bodies (bodies_of elements)) ⊎ (found ≡ bodies (bodies_of elements ++ body ∷ [])))

-- a crash then leaves that; the shown text stays
abbrev pub LeavesAdded : {K : Type 0} → Place K → List Element → List ℕ → Option (List ℕ) → Pairs
LeavesAdded at elements body shown image text =
    FindsAdded at elements body (recovered book_title image) × (shown ≡ Some text)

-- the same of a new detail
abbrev pub FindsBegun : {K : Type 0} → ShelfValue K → PlanValue → Recovered → Type 0
FindsBegun shelf plan = FindsAdded shelf.place shelf.elements (detail_body plan)

abbrev pub LeavesBegun : {K : Type 0} → ShelfValue K → PlanValue → Option (List ℕ) → Pairs
LeavesBegun shelf plan = LeavesAdded shelf.place shelf.elements (detail_body plan)

-- nothing stands in the file behind the last gate of the elements, and where it is unborn behind byte 18
abbrev pub EndsThere : {K : Type 0} → (K → DeskState) → Place K → Type 0
EndsThere state (place.Kept journal) = IsOpen state journal × (length (bytes_now (state journal.desk)) ≡ journal.size)
EndsThere state (place.Unborn desk) = IsTrue (state desk).tells × (length (bytes_now (state desk)) ≤ 18)

-- why no book started: the disk failed, where a crash may have left the new detail, which a book may hold; the journal
-- is full for it; or want of memory, and nothing was done
abbrev pub FailsToStart : {K : Type 0} → (K → DeskState) → ShelfValue K → PlanValue → BookFault → K → K → Type 0
FailsToStart state shelf plan fault.Disk old new =
    IsHistoryOf plan [] × Rises (state old).disk_faults (state new).disk_faults
FailsToStart state shelf plan fault.Memory old new = new ≡ old
FailsToStart state shelf plan (fault.Full size need) old new = IsFullToBegin shelf.elements plan size need × (new ≡ old)
FailsToStart state shelf plan other old new = ⊥

-- ---- its parts

-- why a body wasn't added to the elements: the disk failed, so that its count rose; the journal is full for it, or
-- memory ran out, and nothing was done
abbrev pub FailsToAdd : {K : Type 0} → (K → DeskState) → List Element → List ℕ → BookFault → K → K → Type 0
FailsToAdd state elements body fault.Disk old new = Rises (state old).disk_faults (state new).disk_faults
FailsToAdd state elements body fault.Memory old new = new ≡ old
FailsToAdd state elements body (fault.Full size need) old new =
    (size ≡ book_size elements) × (need ≡ 5 + length body) × (SIZE_LIMIT < size + need) × (new ≡ old)
FailsToAdd state elements body other old new = ⊥

-- the journal has the elements and the body behind them
pub record HasAdded {K : Type 0} (state : K → DeskState) (elements : List Element) (body : List ℕ)
    (journal : Held K) : Type 0 where
  pub title : journal.title ≡ book_title
  pub sound : journal.halted ≡ false
  pub size : journal.size ≡ book_size elements + 5 + length body
  pub limit : journal.size ≤ SIZE_LIMIT
  pub rest : IsOpen state journal → IsAtRest state journal (bodies_of elements ++ body ∷ [])

-- and nothing else, where nothing stood behind the elements
pub record AddsTo {K : Type 0} (state : K → DeskState) (at : Place K) (elements : List Element) (body : List ℕ)
    (journal : Held K) : Type 0 where
  pub has : HasAdded state elements body journal
  pub volatile : journal.volatile ≡ is_volatile at
  pub exact : EndsThere state at → IsTrue (state journal.desk).tells → bytes_now (state journal.desk)
      ≡ journal_bytes book_title (bodies_of elements ++ body ∷ [])
