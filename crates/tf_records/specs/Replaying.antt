-- How a journal is read back. `replayed made bodies` says that just these bodies were replayed into the value.
use Rattle.std.specs.Prelude.{◌≡◌, ◌≢◌, ◌≤◌, ℕ, ◌+◌, IsTrue, List, ◌++◌, length}
use Rattle.tf_numbers.specs.Numbers.{Rises}
use Rattle.tf_desk.specs.State.{DeskState}
use Rattle.tf_journal.specs.Format.{SIZE_LIMIT, prefix_of, Held}
use Rattle.tf_journal.specs.Reading.{HasBodies}
use Rattle.tf_journal.specs.declared.faults.LoadFault.{LoadFault}
use Rattle.tf_journal.specs.declared.faults.LoadFault.TheVariants as load_fault
use Rattle.tf_records.specs.Refusing.{RefusesBodies}

module _ {K R : Type 0} (state : K → DeskState) (replayed : R → List (List ℕ) → Type 0) where
  -- so much was read of a journal, up to this desk: bodies that come first in it were replayed into the value; the next
  -- gate stands at that place
  pub record HasReadTo (journal : Held K) (desk : K) (made : R) (place : ℕ) : Type 0 where
    pub before : List (List ℕ)
    pub is_replayed : replayed made before
    pub place_is : place ≡ length (prefix_of journal.title before)
    pub begins : IsTrue (state desk).tells → (held : List (List ℕ)) → HasBodies state journal held
        → (rest : List (List ℕ)) × (held ≡ before ++ rest)

  -- all was read of a journal, up to this desk: just its bodies were replayed into the value, and its size is theirs
  pub record HasReadAll (journal : Held K) (desk : K) (made : R) : Type 0 where
    pub bodies : List (List ℕ)
    pub is_replayed : replayed made bodies
    pub size : journal.size ≡ length (prefix_of journal.title bodies) + 1
    pub limit : journal.size ≤ SIZE_LIMIT
    pub whole : IsTrue (state desk).tells → (held : List (List ℕ)) → HasBodies state journal held
        → held ≡ bodies

-- why a journal wasn't read back: what the fault says of its bodies is so, the disk's comes only where the count of
-- them rose, and none is of the format
pub record FailsToReadBack {K : Type 0} (state : K → DeskState) (refuses : List (List ℕ) → List ℕ → Type 0)
    (fault : LoadFault) (journal : Held K) (desk : K) : Type 0 where
  pub refused : IsTrue (state desk).tells → (held : List (List ℕ)) → HasBodies state journal held
      → RefusesBodies journal.title refuses fault held
  pub cause : fault ≡ load_fault.Disk → Rises (state journal.desk).disk_faults (state desk).disk_faults
  pub new_format : fault ≢ load_fault.Old
