-- What stays known of the desk through calls that may write to the picked file.
use Rattle.std.proofs.Common.{◌≡◌, ℕ, List, Some}
use Rattle.std.specs.Prelude.{IsTrue}
use Rattle.tf_desk.specs.Crash.{Pairs}
use Rattle.tf_desk.specs.State.{DeskState, MayLeave, Continues, Passes, bytes_now}
use Rattle.tf_journal.specs.Start.{Path, IsSet, file_of}
use Rattle.tf_journal.proofs.PathLemmas.{set_on, path_on, as_read}

-- what the desk's laws say of the file of a name: where it is picked it is there, and what it reads as is among what a crash now leaves
pub record ReadsPicked (name : List ℕ) (now : DeskState) : Type 0 where
  pub there : IsTrue now.tells → now.content.picked ≡ Some name → now.content.files name ≡ Some (bytes_now now)
  pub reads : IsTrue now.tells → (bytes : List ℕ) → now.content.files name ≡ Some bytes → now.left name bytes

-- the picked file as it reads
pub reads_as : {name : List ℕ} {now : DeskState} → now.content.picked ≡ Some name → ReadsPicked name now → IsTrue now.tells
    → MayLeave now (file_of now name) × (file_of now name ≡ bytes_now now)
reads_as {name} {now} picked laws told = as_read now picked (laws.there told) (laws.reads told)

-- what may write to the picked file leaves it set
pub set_continues : {name : List ℕ} {entry mid now : DeskState} → IsSet name entry mid → Continues mid now → IsTrue mid.tells → IsSet name entry now
set_continues set call told = set_on set (call.files told).picked (call.extends.marks told)

-- and what stays known goes on
pub path_continues : {name : List ℕ} {entry mid now : DeskState} {may during wider : Pairs} {held holds : List ℕ → Type 0}
    → Path name entry mid may held → IsSet name entry mid → Continues mid now → IsTrue mid.tells → Passes during mid now
    → ((image text : List ℕ) → may image text → wider image text) → ((image text : List ℕ) → during image text → wider image text)
    → ((image : List ℕ) → MayLeave now image → holds image) → Path name entry now wider holds
path_continues path set call told passes widens inside leaves = path_on path set (call.files told) (call.extends.marks told) passes widens inside leaves
