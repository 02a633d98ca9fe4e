-- What a migration comes to: what becomes of the files, what is said, and the status. Histories have the newest entry
-- first.
use Rattle.std.specs.Prelude.{◌≡◌, ◌≢◌, ◌⊎◌, ℕ, IsTrue, List, [], ◌++◌, length, codes, Option, Some, ◌∷◌, ◌+◌, ◌<◌, ◌≤◌}
use Rattle.std.specs.Fmt.{decimal}
use Rattle.tf_numbers.specs.Numbers.{Rises}
use Rattle.tf_desk.specs.Crash.{Mark, at_pick, ShowsPrefix}
use Rattle.tf_desk.specs.State.{DeskState, MayLeave, Extends, IsUnasked, Says, anything}
use Rattle.tf_states.specs.declared.record.Entry.{Entry}
use Rattle.tf_flow.specs.Plan.{PlanValue}
use Rattle.tf_journal.specs.Format.{Recovered, unborn, bodies, recovered, SIZE_LIMIT, journal_bytes}
use Rattle.tf_journal.specs.Start.{file_of, first_sync, IsStart}
use Rattle.tf_report.specs.Closing.{disk_fault_text, book_full, ClosesWithOrStops, not_a_book}
use Rattle.tf_report.specs.declared.statuses.TheConstants.{SUCCEEDED, DISK_FAILED, NO_BOOK, UNSAID, OUT_OF_MEMORY, FULL, FORBIDDEN}
use Rattle.tf_entries.specs.Entries.{entry_bytes}
use Rattle.tf_entries.specs.Plans.{plan_bytes}
use Rattle.tf_journal.specs.declared.title.Title.TheVariants.{Book as old_title, Book2 as new_title}
use Rattle.tf_records.specs.Refusing.{IsMalformed}
use Rattle.tf_details.specs.Elements.{Element, detail, entry as entry_of, bodies_of, IsHistoryOf, IsNoPlan, IsNoStep}

-- ---- a flow in a book of its own, and in a book of several

-- the bodies of its book: the form of its plan, and of each entry of its history
abbrev pub old_bodies : PlanValue → List Entry → List (List ℕ)
old_bodies plan [] = plan_bytes plan ∷ []
old_bodies plan (e ∷ past) = old_bodies plan past ++ entry_bytes e ∷ []

-- the elements of a book of several flows that holds it alone: a detail of its plan, and each entry of its history,
-- which is of detail 0
abbrev pub carried : PlanValue → List Entry → List Element
carried plan [] = detail plan ∷ []
carried plan (e ∷ past) = entry_of 0 e ∷ carried plan past

-- the bodies of that book
abbrev pub new_bodies : PlanValue → List Entry → List (List ℕ)
new_bodies plan past = bodies_of (carried plan past)

-- ---- what a file is

-- what recovery makes of bytes as a book of one flow
abbrev pub old_in : List ℕ → Recovered
old_in bytes = recovered old_title bytes

-- what it makes of the file of that name
abbrev pub old_at : DeskState → List ℕ → Recovered
old_at state name = old_in (file_of state name)

-- the same as a book of several flows
abbrev pub new_in : List ℕ → Recovered
new_in bytes = recovered new_title bytes

abbrev pub new_at : DeskState → List ℕ → Recovered
new_at state name = new_in (file_of state name)

-- a book of one flow holds this plan and this history, which a book may hold
pub record HoldsFlow (plan : PlanValue) (past : List Entry) (found : Recovered) : Type 0 where
  pub is : found ≡ bodies (old_bodies plan past)
  pub history : IsHistoryOf plan past

-- it holds no flow: it is unborn, or has no body
abbrev pub HoldsNoFlow : Recovered → Type 0
HoldsNoFlow found = (found ≡ unborn) ⊎ (found ≡ bodies [])

-- ---- where it is refused

-- the body can't come after these: as the first it is no plan that can run, or after a plan and a history it is no
-- entry that may follow
pub data CannotFollow (before : List (List ℕ)) (body : List ℕ) : Type 0 where
  first : before ≡ [] → IsNoPlan body → CannotFollow before body
  later : (plan : PlanValue) (past : List Entry) → IsHistoryOf plan past → before ≡ old_bodies plan past
      → IsNoStep plan past body → CannotFollow before body

-- the file is no book of one flow: it is no journal of that title, or one of its bodies can't come
abbrev pub IsNoBook : Recovered → ℕ → Option ℕ → Type 0
IsNoBook found offset byte = IsMalformed old_title CannotFollow found offset byte

-- ---- how much of a new book is there

-- the file is still unborn; the book is whole; or one or the other, where the disk failed
pub data Left : Type 0 where
  not_yet : Left
  whole : Left
  either : Left

-- what recovery finds then of a book with these bodies
abbrev pub Finds : Left → List (List ℕ) → Recovered → Type 0
Finds not_yet held found = found ≡ unborn
Finds whole held found = found ≡ bodies held
Finds either held found = (found ≡ unborn) ⊎ (found ≡ bodies held)

-- one of the bodies is the first that doesn't fit: the journal of those before it has that size, and so much more is
-- needed, which passes the greatest size
pub record IsFullFor (held : List (List ℕ)) (size need : ℕ) : Type 0 where
  pub before : List (List ℕ)
  pub body : List ℕ
  pub after : List (List ℕ)
  pub splits : held ≡ before ++ body ∷ after
  pub size_is : size ≡ length (journal_bytes new_title before)
  pub need_is : need ≡ 5 + length body
  pub fits : size ≤ SIZE_LIMIT
  pub over : SIZE_LIMIT < size + need

-- a sync answered Ok at that moment, the first since the file of that name was picked; these marks are those of the
-- call from before the pick
pub record IsFirstSync (name : List ℕ) (before : List Mark) (entry now : DeskState) (moment : ℕ) : Type 0 where
  pub picked : ℕ
  pub more : List Mark
  pub added : now.content.marks ≡ entry.content.marks ++ (before ++ at_pick name picked ∷ more)
  pub first : first_sync more ≡ Some moment

-- ---- texts

-- the message for a book that holds no flow
abbrev pub no_flow_text : List ℕ
no_flow_text = codes "taskflow: no flow in the book\n"

-- the message for a book that is there already
abbrev pub exists_text : List ℕ
exists_text = codes "taskflow: book exists\n"

-- the message for a book whose flow was carried over with so many entries
unfoldable pub migrated_text : ℕ → List ℕ
migrated_text entries = codes "migrated " ++ decimal entries ++ codes " entries\n"

-- ---- why a migration ends so: its message and its status

-- the old book gave no flow: memory ran out, the disk failed, it is no book, or it holds no flow
pub data IsUnreadFor (told : Type 0) (old : Recovered) : List ℕ → ℕ → Type 0 where
  unread_no_memory : IsUnreadFor told old [] OUT_OF_MEMORY
  unread_failed : IsUnreadFor told old disk_fault_text DISK_FAILED
  no_book : (offset : ℕ) (byte : Option ℕ) → (told → IsNoBook old offset byte)
      → IsUnreadFor told old (not_a_book offset byte) NO_BOOK
  no_flow : (told → HoldsNoFlow old) → IsUnreadFor told old no_flow_text FORBIDDEN

-- the new book wasn't begun: memory ran out, the disk failed, or its file isn't unborn
pub data IsUnbegunFor (told : Type 0) (new : Recovered) : List ℕ → ℕ → Type 0 where
  unbegun_no_memory : IsUnbegunFor told new [] OUT_OF_MEMORY
  unbegun_failed : IsUnbegunFor told new disk_fault_text DISK_FAILED
  exists : (told → new ≢ unborn) → IsUnbegunFor told new exists_text FORBIDDEN

-- the new book was begun: it is whole, a body of it didn't fit and its file is still unborn, or the disk failed and it
-- is one or the other
pub data IsBegunFor (plan : PlanValue) (past : List Entry) : Left → List ℕ → ℕ → Type 0 where
  migrated : IsBegunFor plan past whole (migrated_text (length past)) SUCCEEDED
  filled : (size need : ℕ) → IsFullFor (new_bodies plan past) size need
      → IsBegunFor plan past not_yet (book_full size need) FULL
  write_failed : IsBegunFor plan past either disk_fault_text DISK_FAILED

-- ---- what becomes of the files

-- no file changed; a crash since the call's start leaves the file of that name as it was, and a prefix of the message
-- shown
pub record StaysAlone (name : List ℕ) (entry now : DeskState) (message : List ℕ) : Type 0 where
  pub file : file_of now name ≡ file_of entry name
  pub others : (other : List ℕ) → other ≢ name → now.content.files other ≡ entry.content.files other
  pub crash : (moment : ℕ) → IsStart name entry now moment → (image text : List ℕ) → now.crashes moment image text
      → (image ≡ file_of entry name) × ShowsPrefix entry.shown message (Some text)

-- no file but the new book's changed
pub record OthersStay (old new : List ℕ) (entry now : DeskState) : Type 0 where
  pub old_file : file_of now old ≡ file_of entry old
  pub others : (other : List ℕ) → other ≢ old → other ≢ new → now.content.files other ≡ entry.content.files other

-- the old book's file as it was; or the new one's, as a crash at entry might leave it, empty where it was missing, or
-- an image that holds so
abbrev pub IsOneOf : (old new : List ℕ) → DeskState → (List ℕ → Type 0) → List ℕ → Type 0
IsOneOf old new entry holds image = (image ≡ file_of entry old) ⊎ (entry.left new image ⊎ ((image ≡ []) ⊎ holds image))

-- a crash since the call's start leaves one of these, and a prefix of the message shown
abbrev pub LeavesOneOf : (old new : List ℕ) → DeskState → DeskState → (List ℕ → Type 0) → List ℕ → Type 0
LeavesOneOf old new entry now holds message =
    (moment : ℕ) → IsStart old entry now moment → (image text : List ℕ) → now.crashes moment image text
    → IsOneOf old new entry holds image × ShowsPrefix entry.shown message (Some text)

-- no file changed; a crash since the first sync of the new book's file leaves that as it was, and a prefix of the
-- message shown; the marks are those of the reading of the old book
pub record StaysUnbegun (old new : List ℕ) (entry now : DeskState) (message : List ℕ) : Type 0 where
  pub stay : OthersStay old new entry now
  pub file : file_of now new ≡ file_of entry new
  pub read : List Mark
  pub crash : (moment : ℕ) → IsFirstSync new read entry now moment → (image text : List ℕ)
      → now.crashes moment image text
      → (image ≡ file_of entry new) × ShowsPrefix entry.shown message (Some text)
  pub meanwhile : LeavesOneOf old new entry now (λ image. ⊥) message

-- so much of the new book is there, now and after each later crash; a crash since the first sync of its file leaves
-- that unborn and nothing said, or so much of the book and a prefix of the message shown; no other file changed; the
-- marks are those of the reading of the old book
pub record Lasts (old new : List ℕ) (held : List (List ℕ)) (left : Left) (entry now : DeskState)
    (message : List ℕ) : Type 0 where
  pub stay : OthersStay old new entry now
  pub file : Finds left held (new_at now new)
  pub picked : now.content.picked ≡ Some new
  pub later : (image : List ℕ) → MayLeave now image → Finds left held (new_in image)
  pub read : List Mark
  pub synced : (moment : ℕ) × IsFirstSync new read entry now moment
  pub crash : (moment : ℕ) → IsFirstSync new read entry now moment → (image text : List ℕ)
      → now.crashes moment image text
      → ((new_in image ≡ unborn) × (entry.shown ≡ Some text))
      ⊎ (Finds left held (new_in image) × ShowsPrefix entry.shown message (Some text))
  pub meanwhile : LeavesOneOf old new entry now
      (λ image. (new_in image ≡ unborn) ⊎ Finds left held (new_in image)) message

-- ---- how a migration goes

-- of the files each fact holds where the desk tells
pub data Migrates (old new : List ℕ) (entry now : DeskState) (status : ℕ) : Type 0 where
  -- the old book gave no flow, and no file was written
  unread : (message : List ℕ) (wanted : ℕ) → IsUnreadFor (IsTrue entry.tells) (old_at entry old) message wanted
      → ClosesWithOrStops entry.shown message wanted now.shown status
      → (IsTrue entry.tells → StaysAlone old entry now message)
      → Migrates old new entry now status
  -- it gave its flow; the new book wasn't begun, and no file was written
  unbegun : (plan : PlanValue) (past : List Entry) (message : List ℕ) (wanted : ℕ)
      → (IsTrue entry.tells → HoldsFlow plan past (old_at entry old))
      → IsUnbegunFor (IsTrue entry.tells) (new_at entry new) message wanted
      → ClosesWithOrStops entry.shown message wanted now.shown status
      → (IsTrue entry.tells → StaysUnbegun old new entry now message)
      → Migrates old new entry now status
  -- it gave its flow; the new book's file was unborn, and the book was begun; where memory ran out it is unborn still
  begun : (plan : PlanValue) (past : List Entry) (left : Left) (message : List ℕ) (wanted : ℕ)
      → (IsTrue entry.tells → HoldsFlow plan past (old_at entry old))
      → (IsTrue entry.tells → new_at entry new ≡ unborn)
      → IsBegunFor plan past left message wanted
      → (status ≡ OUT_OF_MEMORY → left ≡ not_yet)
      → ClosesWithOrStops entry.shown message wanted now.shown status
      → (IsTrue entry.tells → Lasts old new (new_bodies plan past) left entry now message)
      → Migrates old new entry now status

-- ---- when a status comes

-- nobody is asked for a stop, no count falls, and the disk failed, and a text couldn't be said, only where the count of
-- such faults rose
pub record HasCauses (old new : DeskState) (status : ℕ) : Type 0 where
  pub extends : Extends anything old new
  pub unasked : IsUnasked old new
  pub failed : status ≡ DISK_FAILED → Rises old.disk_faults new.disk_faults
  pub unsaid : status ≡ UNSAID → Rises old.out_faults new.out_faults

-- a message was said last, or memory ran out for it and nothing was said
pub record Concludes (message : List ℕ) (wanted : ℕ) (old new : DeskState) (status : ℕ) : Type 0 where
  pub closes : ClosesWithOrStops old.shown message wanted new.shown status
  pub says : Says message old new
  pub unsaid : status ≡ UNSAID → Rises old.out_faults new.out_faults

-- ---- completeness

-- a file is a book of one flow, and holds its flow
pub record IsBookOfFlow (found : Recovered) : Type 0 where
  pub book : (offset : ℕ) (byte : Option ℕ) → ¬ (IsNoBook found offset byte)
  pub flow : ¬ (HoldsNoFlow found)

-- where nothing failed, the flow is carried over, or memory runs out, or the new book would be longer than its limit
abbrev pub IsComplete : ℕ → Type 0
IsComplete status = (status ≡ SUCCEEDED) ⊎ (status ≡ OUT_OF_MEMORY) ⊎ (status ≡ FULL)
