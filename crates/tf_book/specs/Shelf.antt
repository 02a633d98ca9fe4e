-- A shelf: what the file of a book holds, before one of its details is opened or a new one begins.
use Rattle.std.specs.Prelude.{◌≡◌, ◌≤◌, ℕ, ◌+◌, true, false, IsTrue, List, [], ◌∷◌, Bool, None, Result, Ok, Err}
use Rattle.tf_desk.specs.State.{DeskState, bytes_now}
use Rattle.tf_flow.specs.Plan.{PlanValue}
use Rattle.tf_journal.specs.Format.{SIZE_LIMIT, Recovered, unborn, bodies, is_unborn, Held, IsAtRest, IsOpen}
use Rattle.tf_journal.specs.declared.title.Title.TheVariants.{Book2 as book_title}
use Rattle.tf_model.specs.History.{flow_of}
use Rattle.tf_details.specs.Elements.{Element, details, history, detail_name, bodies_of, book_size}
use Rattle.tf_book.specs.Book.{BookValue}
use Rattle.tf_book.specs.declared.shelf.Detail.{Detail}
use Rattle.tf_book.specs.declared.shelf.Place.{Place}
use Rattle.tf_book.specs.declared.shelf.Place.TheVariants as place

-- ---- what a shelf is

-- a shelf: where its elements stand, and the elements, the newest first
pub record ShelfValue (K : Type 0) : Type 0 where
  pub place : Place K
  pub elements : List Element

-- the desk: the journal's, or that of a file that is still unborn
abbrev pub desk_at : {K : Type 0} → Place K → K
desk_at (place.Kept journal) = journal.desk
desk_at (place.Unborn desk) = desk

abbrev pub desk_of : {K : Type 0} → ShelfValue K → K
desk_of shelf = desk_at shelf.place

-- nothing is kept in a file
abbrev pub is_volatile : {K : Type 0} → Place K → Bool
is_volatile (place.Kept journal) = journal.volatile
is_volatile (place.Unborn desk) = false

-- ---- what is known of it

-- the journal has just these elements, and none where it keeps nothing
pub record HoldsElements {K : Type 0} (state : K → DeskState) (journal : Held K)
    (elements : List Element) : Type 0 where
  pub title : journal.title ≡ book_title
  pub sound : journal.halted ≡ false
  pub size : journal.size ≡ book_size elements
  pub limit : journal.size ≤ SIZE_LIMIT
  pub none_kept : journal.volatile ≡ true → elements ≡ []
  pub ready : IsOpen state journal → IsAtRest state journal (bodies_of elements)

-- the elements stand in a journal; or there are none, and the file may be made a journal
abbrev pub IsPlaced : {K : Type 0} → (K → DeskState) → Place K → List Element → Type 0
IsPlaced state (place.Kept journal) elements = HoldsElements state journal elements
IsPlaced state (place.Unborn desk) elements =
    (elements ≡ []) × (IsTrue (state desk).tells → is_unborn book_title (bytes_now (state desk)) ≡ true)

-- the desk tells its content, and the elements are kept in its file
abbrev pub IsTold : {K : Type 0} → (K → DeskState) → Place K → Type 0
IsTold state (place.Kept journal) = IsOpen state journal
IsTold state (place.Unborn desk) = IsTrue (state desk).tells

-- ---- what a load answers of a file

-- the file has exactly the bodies of the elements; or it is unborn
abbrev pub IsFoundAs : {K : Type 0} → Place K → List Element → Recovered → Type 0
IsFoundAs (place.Kept journal) elements found = found ≡ bodies (bodies_of elements)
IsFoundAs (place.Unborn desk) elements found = found ≡ unborn

-- the same of the bodies of a file that is a journal
abbrev pub IsReadFrom : {K : Type 0} → ShelfValue K → List (List ℕ) → Type 0
IsReadFrom shelf held = held ≡ bodies_of shelf.elements

-- the desk that an answer has
abbrev pub desk_after_load : {K F : Type 0} → Result (ShelfValue K) (K × F) → K
desk_after_load (Ok shelf) = desk_of shelf
desk_after_load (Err back) = back.0

-- ---- what becomes of it when a detail is opened

-- the book is the detail of that number; where the desk tells its content, the book's file has just the bodies of the
-- shelf's elements, and the book has the detail's history; it is kept in its file, isn't halted, says its lines and has
-- no limit
pub record IsOpened {K : Type 0} (state : K → DeskState) (shelf : ShelfValue K) (number : ℕ)
    (book : BookValue K) : Type 0 where
  pub number_is : book.contents.number ≡ number
  pub bodies : IsTrue (state book.journal.desk).tells → bodies_of book.contents.elements ≡ bodies_of shelf.elements
  pub past : IsTrue (state book.journal.desk).tells → book.past ≡ history number shelf.elements
  pub volatile : book.journal.volatile ≡ false
  pub halt : book.halt ≡ None
  pub failed : book.failed ≡ None
  pub quiet : book.quiet ≡ false
  pub limit : book.limit ≡ None

-- the desk that an answer has
abbrev pub desk_after_open : {K F : Type 0} → Result (BookValue K) (K × F) → K
desk_after_open (Ok book) = book.journal.desk
desk_after_open (Err back) = back.0
