-- How a book of several flows is made whole: it is drafted, its bodies are added, and it is published.
use Rattle.std.specs.Prelude.{◌≡◌, ◌≢◌, ◌⊎◌, ◌≤◌, ℕ, false, IsTrue, List, [], length, Option, Some, Result, Ok, Err}
use Rattle.tf_numbers.specs.Numbers.{Rises}
use Rattle.tf_desk.specs.Crash.{Pairs}
use Rattle.tf_desk.specs.State.{DeskState, OnDisk, MayLeave, LeftNow, Passes, Picks, LeavesMade, anything}
use Rattle.tf_journal.specs.Format.{SIZE_LIMIT, unborn, journal_bytes, Held, IsDrafted}
use Rattle.tf_journal.specs.Start.{IsSet, Path, Untouched}
use Rattle.tf_journal.specs.declared.faults.AppendFault.{AppendFault}
use Rattle.tf_journal.specs.declared.faults.AppendFault.TheVariants as append
use Rattle.tf_journal.specs.declared.title.Title.TheVariants.{Book2 as new_title}
use Rattle.tf_migration.specs.Migrates.{new_in, new_at, Left, not_yet, whole, either, Finds, IsFullFor, IsFirstSync}
use Rattle.tf_migration.specs.declared.writing.NewFault.{NewFault}
use Rattle.tf_migration.specs.declared.writing.NewFault.TheVariants as fault

-- ---- what a crash meanwhile leaves

-- a crash meanwhile: the file is unborn, or as it is left; the shown text stays
abbrev pub LeavesOnce : Left → List (List ℕ) → Option (List ℕ) → Pairs
LeavesOnce left held shown image text = ((new_in image ≡ unborn) ⊎ Finds left held (new_in image)) × (shown ≡ Some text)

-- a crash now leaves the picked file so
abbrev pub IsLeftSo : Left → List (List ℕ) → DeskState → Type 0
IsLeftSo left held state = (image : List ℕ) → MayLeave state image → Finds left held (new_in image)

-- ---- bodies are added

-- a draft with these bodies, kept in a file; no append found a disk fault
pub record IsDraftOf {K : Type 0} (state : K → DeskState) (added : List (List ℕ)) (journal : Held K) : Type 0 where
  pub title : journal.title ≡ new_title
  pub size : journal.size ≡ length (journal_bytes new_title added)
  pub limit : journal.size ≤ SIZE_LIMIT
  pub sound : journal.halted ≡ false
  pub in_file : journal.volatile ≡ false
  pub drafted : IsTrue (state journal.desk).tells → IsDrafted state journal added

-- why a body wasn't added: a disk fault, where the count of them rose, or it doesn't fit
abbrev pub FailsToAdd : List (List ℕ) → AppendFault → DeskState → DeskState → Type 0
FailsToAdd held append.Disk old new = Rises old.disk_faults new.disk_faults
FailsToAdd held (append.Full size need) old new = IsFullFor held size need
FailsToAdd held append.Halted old new = ⊥

-- how much is there after the bodies were to be added and published
abbrev pub left_added : {A : Type 0} → Result A AppendFault → Left
left_added (Ok done) = whole
left_added (Err append.Disk) = either
left_added (Err (append.Full size need)) = not_yet
left_added (Err append.Halted) = either

-- ---- a book is written into an unborn file

-- the desk that an answer has
abbrev pub desk_written : {K F : Type 0} → Result K (K × F) → K
desk_written (Ok desk) = desk
desk_written (Err back) = back.0

-- how much is there after it was to be written and wasn't
abbrev pub left_by : NewFault → Left
left_by fault.Disk = either
left_by (fault.Full size need) = not_yet
left_by fault.Memory = not_yet
left_by fault.Exists = either

-- how much is there after it was to be written
abbrev pub left_written : {K : Type 0} → Result K (K × NewFault) → Left
left_written (Ok desk) = whole
left_written (Err back) = left_by back.1

-- what it is called that bodies weren't added or published
abbrev pub unmade_by : AppendFault → NewFault
unmade_by append.Disk = fault.Disk
unmade_by (append.Full size need) = fault.Full size need
unmade_by append.Halted = fault.Disk

-- why it wasn't: a disk fault, where the count of them rose; a body that doesn't fit; or want of memory
abbrev pub FailsToWrite : List (List ℕ) → NewFault → DeskState → DeskState → Type 0
FailsToWrite held fault.Disk old new = Rises old.disk_faults new.disk_faults
FailsToWrite held (fault.Full size need) old new = IsFullFor held size need
FailsToWrite held fault.Memory old new = Unit {0}
FailsToWrite held fault.Exists old new = ⊥

-- ---- the file of a name

-- a crash while the file of that name is picked leaves the file that was picked before, or that one: as a crash might
-- leave it before, or empty where it was missing
abbrev pub IsLeftByPick : List ℕ → DeskState → List ℕ → Type 0
IsLeftByPick name entry image = MayLeave entry image ⊎ (entry.left name image ⊎ (image ≡ []))

-- the shown text stays
abbrev pub LeavesByPick : List ℕ → DeskState → Pairs
LeavesByPick name entry image text = IsLeftByPick name entry image × (entry.shown ≡ Some text)

-- the same while a book is made in it: also unborn, or as it is left
abbrev pub LeavesByMaking : List ℕ → List (List ℕ) → Left → DeskState → Pairs
LeavesByMaking name held left entry image text =
    (IsLeftByPick name entry image ⊎ ((new_in image ≡ unborn) ⊎ Finds left held (new_in image)))
    × (entry.shown ≡ Some text)

-- the file was unborn, and so much is there of a book with these bodies; since the call's start a crash leaves the file
-- unborn, or with so much
pub record IsMade (name : List ℕ) (held : List (List ℕ)) (left : Left) (entry now : DeskState) : Type 0 where
  pub on_disk : OnDisk anything entry now
  pub was_unborn : IsTrue entry.tells → new_at entry name ≡ unborn
  pub set : IsTrue entry.tells → IsSet name entry now
  pub synced : IsTrue entry.tells → (moment : ℕ) × IsFirstSync name [] entry now moment
  pub path : IsTrue entry.tells → Path name entry now (LeavesOnce left held entry.shown)
      (λ image. Finds left held (new_in image))
  pub file : IsTrue entry.tells → Finds left held (new_at now name)
  pub passes : IsTrue entry.tells → Passes (LeavesByMaking name held left entry) entry now

-- the file is as it was
pub record IsKept (name : List ℕ) (entry now : DeskState) : Type 0 where
  pub on_disk : OnDisk anything entry now
  pub untouched : Untouched name entry now
  pub passes : IsTrue entry.tells → Passes (LeavesByPick name entry) entry now
  pub left : IsTrue entry.tells → (image : List ℕ) → MayLeave now image → IsLeftByPick name entry image

-- why it isn't there whole: the disk failed, before anything was written or after that; the file isn't unborn; a body
-- doesn't fit; or memory ran out
abbrev pub FailsToMake : List ℕ → List (List ℕ) → NewFault → DeskState → DeskState → Type 0
FailsToMake name held fault.Disk entry now =
    Rises entry.disk_faults now.disk_faults × (IsKept name entry now ⊎ IsMade name held either entry now)
FailsToMake name held fault.Exists entry now = IsKept name entry now × (IsTrue entry.tells → new_at entry name ≢ unborn)
FailsToMake name held (fault.Full size need) entry now = IsMade name held not_yet entry now × IsFullFor held size need
FailsToMake name held fault.Memory entry now = IsKept name entry now

-- it is there whole, or it isn't
abbrev pub Makes : {K : Type 0} → (K → DeskState) → List ℕ → List (List ℕ) → DeskState → Result K (K × NewFault)
    → Type 0
Makes state name held entry (Ok desk) = IsMade name held whole entry (state desk)
Makes state name held entry (Err back) = FailsToMake name held back.1 entry (state back.0)

-- the file of that name was picked
pub record IsPicked (name : List ℕ) (entry now : DeskState) : Type 0 where
  pub on_disk : OnDisk (LeftNow now) entry now
  pub picks : IsTrue entry.tells → Picks name entry now
  pub made : IsTrue entry.tells → LeavesMade name entry now
