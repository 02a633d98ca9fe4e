-- What the answers of a journal's calls say of its file.
use Rattle.std.specs.Prelude.{◌≡◌, ◌≢◌, ℕ, ◌≤◌, List, length, Option, Some, None}
use Rattle.tf_numbers.specs.Numbers.{Rises}
use Rattle.tf_desk.specs.State.{DeskState}
use Rattle.tf_journal.specs.declared.faults.JournalFault.{JournalFault}
use Rattle.tf_journal.specs.declared.faults.JournalFault.TheVariants.{Disk, NotABook, Unborn, Memory, Old}
use Rattle.tf_journal.specs.declared.faults.ScanFault.{ScanFault}
use Rattle.tf_journal.specs.declared.faults.ScanFault.TheVariants as scan_fault
use Rattle.tf_journal.specs.declared.scanning.Scanned.{Scanned}
use Rattle.tf_journal.specs.declared.title.Title.{Title}
use Rattle.tf_journal.specs.declared.scanning.Scanned.TheVariants as scanned
use Rattle.tf_journal.specs.Format.{SIZE_LIMIT, Found, closed, body, bad, Recovered, unborn, old_format, bodies, not_a_book, recovered, LiesAs}

-- a file was refused for what it is; a fault of the disk and want of memory say nothing of it
abbrev pub RefusesFile : JournalFault → Recovered → Type 0
RefusesFile Disk file = Unit {0}
RefusesFile Memory file = Unit {0}
RefusesFile Unborn file = file ≡ unborn
RefusesFile Old file = file ≡ old_format
RefusesFile (NotABook offset byte) file = file ≡ not_a_book offset byte

-- a record was refused for what it is
abbrev pub RefusesRecord : JournalFault → Found → Type 0
RefusesRecord Disk found = Unit {0}
RefusesRecord Memory found = Unit {0}
RefusesRecord Unborn found = ⊥
RefusesRecord Old found = ⊥
RefusesRecord (NotABook offset byte) found = found ≡ bad offset byte

-- what was read of a record: none, or its body and the next gate's place
abbrev pub GivesRecord : Option ℕ → List ℕ → List ℕ → Found → Type 0
GivesRecord None before after found = (found ≡ closed) × (after ≡ before)
GivesRecord (Some next) before after found = found ≡ body after next

-- a fault that says nothing of the file
abbrev pub IsNoRefusal : JournalFault → Type 0
IsNoRefusal Disk = Unit {0}
IsNoRefusal Memory = Unit {0}
IsNoRefusal Unborn = ⊥
IsNoRefusal Old = ⊥
IsNoRefusal (NotABook offset byte) = ⊥

-- why a file that was born wasn't read: a disk fault comes only where their count rose, and it is neither unborn nor of
-- another format
pub record FailsToRead (fault : JournalFault) (old new : DeskState) : Type 0 where
  pub cause : fault ≡ Disk → Rises old.disk_faults new.disk_faults
  pub born : fault ≢ Unborn
  pub new_format : fault ≢ Old

-- why a file wasn't scanned: a disk fault comes only where their count rose, and it takes no memory
pub record FailsToScan (fault : JournalFault) (old new : DeskState) : Type 0 where
  pub cause : fault ≡ Disk → Rises old.disk_faults new.disk_faults
  pub no_memory : fault ≢ Memory

-- why a journal wasn't made: a disk fault, where their count rose, or want of memory
abbrev pub FailsToCreate : JournalFault → DeskState → DeskState → Type 0
FailsToCreate Disk old new = Rises old.disk_faults new.disk_faults
FailsToCreate Memory old new = Unit {0}
FailsToCreate Unborn old new = ⊥
FailsToCreate Old old new = ⊥
FailsToCreate (NotABook offset byte) old new = ⊥

-- the file is unborn, or a journal with so many bodies, which end at that place
abbrev pub IsScanned : Scanned → Title → List ℕ → Type 0
IsScanned scanned.Unborn title bytes = recovered title bytes ≡ unborn
IsScanned (scanned.Records count end) title bytes =
    (held : List (List ℕ)) × (recovered title bytes ≡ bodies held) × (count ≡ length held) × LiesAs title held end bytes

-- the place is one at which a journal may end
abbrev pub EndsWithin : Scanned → Type 0
EndsWithin scanned.Unborn = Unit {0}
EndsWithin (scanned.Records count end) = (18 ≤ end) × (end ≤ SIZE_LIMIT)

-- the file was refused for what it is; a fault of the disk says nothing of it
abbrev pub RefusesScan : ScanFault → Recovered → Type 0
RefusesScan scan_fault.Disk file = Unit {0}
RefusesScan (scan_fault.NotABook offset byte) file = file ≡ not_a_book offset byte
RefusesScan scan_fault.Old file = file ≡ old_format

-- a disk fault comes only where their count rose
abbrev pub RisesAtDisk : ScanFault → DeskState → DeskState → Type 0
RisesAtDisk scan_fault.Disk old new = Rises old.disk_faults new.disk_faults
RisesAtDisk (scan_fault.NotABook offset byte) old new = Unit {0}
RisesAtDisk scan_fault.Old old new = Unit {0}
