-- How bodies are read through a journal, one after another.
use Rattle.std.specs.Prelude.{◌≡◌, ◌⊎◌, ℕ, ◌<◌, ◌≤◌, Bool, true, false, IsTrue, List, [], ◌∷◌, Option, None}
use Rattle.tf_desk.specs.State.{DeskState, bytes_now, Trusts, Rests}
use Rattle.tf_journal.specs.Format.{SIZE_LIMIT, bad, record_at, Held, LiesAs, IsAtRest}
use Rattle.tf_journal.specs.declared.faults.LoadFault.{LoadFault}
use Rattle.tf_journal.specs.declared.faults.LoadFault.TheVariants as load_fault
use Rattle.tf_journal.specs.declared.title.Title.{Title}
use Rattle.tf_journal.specs.declared.window.Window.{Window}
use Rattle.tf_journal.specs.Reach.{IsWindow}

-- what was found behind bodies: nothing is left, or the next body
abbrev pub IsNext : Bool → List (List ℕ) → List ℕ → Type 0
IsNext false rest found = rest ≡ []
IsNext true rest found = (others : List (List ℕ)) × (rest ≡ found ∷ others)

-- these bodies lie in the journal's file
abbrev pub HasBodies : {K : Type 0} → (K → DeskState) → Held K → List (List ℕ) → Type 0
HasBodies state journal held = LiesAs journal.title held journal.size (bytes_now (state journal.desk))

-- where the desk tells its content, the window shows the picked file
abbrev pub IsWindowOf : DeskState → Window → Type 0
IsWindowOf desk window = IsTrue desk.tells → IsWindow (bytes_now desk) window

-- a fault that says nothing of the file
abbrev pub IsNoRefusal : LoadFault → Type 0
IsNoRefusal load_fault.Disk = Unit {0}
IsNoRefusal load_fault.Memory = Unit {0}
IsNoRefusal (load_fault.NotABook offset byte) = ⊥
IsNoRefusal load_fault.Old = ⊥

-- a place was refused for itself: it is past the greatest size of a journal, which the place itself shows
pub record IsPastLimit (offset : ℕ) (byte : Option ℕ) (place : ℕ) : Type 0 where
  pub past : SIZE_LIMIT ≤ place
  pub offset_is : offset ≡ place
  pub byte_is : byte ≡ None

-- a place of these bytes was refused: it is past the greatest size, or there is no record behind the open gate there,
-- as that byte or the file's end shows; a fault of the disk and want of memory come only below the greatest size, and
-- say nothing of the file
abbrev pub RefusesPlace : LoadFault → Title → List ℕ → ℕ → Type 0
RefusesPlace load_fault.Disk title bytes place = place < SIZE_LIMIT
RefusesPlace load_fault.Memory title bytes place = place < SIZE_LIMIT
RefusesPlace (load_fault.NotABook offset byte) title bytes place =
    IsPastLimit offset byte place ⊎ ((place < SIZE_LIMIT) × (record_at title bytes place ≡ bad offset byte))
RefusesPlace load_fault.Old title bytes place = ⊥

-- a journal through which bodies were read: no file changed, nothing was shown, and no count but that of disk faults
-- rose
pub record OnlyReads {K : Type 0} (state : K → DeskState) (old new : Held K) : Type 0 where
  pub journal : new ≡ record old { desk = new.desk }
  pub stays : IsTrue (state new.desk).tells → (held : List (List ℕ)) → IsAtRest state old held → IsAtRest state new held
  pub rests : Trusts Rests (state old.desk) (state new.desk)
