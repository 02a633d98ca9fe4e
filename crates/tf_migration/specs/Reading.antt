-- How the flow of a book of one flow is read.
use Rattle.std.specs.Prelude.{◌≡◌, ◌⊎◌, ℕ, IsTrue, List, [], ◌∷◌, ◌++◌, Result, Ok, Err}
use Rattle.tf_numbers.specs.Numbers.{Rises}
use Rattle.tf_states.specs.declared.record.Entry.{Entry}
use Rattle.tf_flow.specs.Plan.{PlanValue}
use Rattle.tf_entries.specs.Heads.{head_bytes}
use Rattle.tf_entries.specs.declared.heads.Head.TheVariants as head
use Rattle.tf_desk.specs.State.{DeskState, OnDisk, anything}
use Rattle.tf_journal.specs.Format.{Recovered, Held}
use Rattle.tf_journal.specs.Reading.{HasBodies}
use Rattle.tf_journal.specs.Start.{IsSet, Untouched}
use Rattle.tf_details.specs.Elements.{IsLegalBook}
use Rattle.tf_details.specs.Reading.{AreMachinesOf, IsReadEntry, HasTaken}
use Rattle.tf_migration.specs.Migrates.{old_bodies, carried, new_bodies, old_at, HoldsFlow, HoldsNoFlow, IsNoBook}
use Rattle.tf_migration.specs.declared.flows.Flow.{Flow}
use Rattle.tf_migration.specs.declared.flows.OldBook.{OldBook}
use Rattle.tf_migration.specs.declared.flows.OldBook.TheVariants as old
use Rattle.tf_migration.specs.declared.reading.OldFault.{OldFault}
use Rattle.tf_migration.specs.declared.reading.OldFault.TheVariants as fault

-- ---- body by body

-- just these bodies were read: they are those of a plan and a history, which make a legal book of several flows; its
-- bodies are kept
pub record HasReadFlow (flow : Flow) (bodies : List (List ℕ)) : Type 0 where
  pub plan : PlanValue
  pub past : List Entry
  pub bodies_are : bodies ≡ old_bodies plan past
  pub legal : IsLegalBook (carried plan past)
  pub machines_are : AreMachinesOf flow.details (carried plan past)
  pub kept : flow.bodies.items ≡ new_bodies plan past

-- the same before the plan was read: no body was
abbrev pub HasReadBook : OldBook → List (List ℕ) → Type 0
HasReadBook old.Empty bodies = bodies ≡ []
HasReadBook (old.Of flow) bodies = HasReadFlow flow bodies

-- one entry more was read of this form, and its body is kept
pub record HasReadEntry (old new : Flow) (form : List ℕ) : Type 0 where
  pub e : Entry
  pub read : IsReadEntry old.details 0 form e
  pub taken : HasTaken old.details new.details 0 e
  pub kept : new.bodies.items ≡ old.bodies.items ++ (head_bytes (head.Entry 0) ++ form) ∷ []

-- ---- a whole file

-- the desk that an answer has
abbrev pub desk_read : {K A F : Type 0} → Result (K × A) (K × F) → K
desk_read (Ok found) = found.0
desk_read (Err back) = back.0

-- all bodies of a journal were read, up to this desk: they are those of a plan and a history, and the bodies that these have in a book
-- of several flows are kept
pub record HasReadAllOf {K : Type 0} (state : K → DeskState) (journal : Held K) (desk : K)
    (kept : List (List ℕ)) : Type 0 where
  pub plan : PlanValue
  pub past : List Entry
  pub kept_are : kept ≡ new_bodies plan past
  pub legal : IsLegalBook (carried plan past)
  pub whole : IsTrue (state desk).tells → (held : List (List ℕ)) → HasBodies state journal held
      → held ≡ old_bodies plan past

-- the bodies are those that a flow has in a book of several; where the desk tells, the file holds that flow
pub record HasFlow (told : Type 0) (found : Recovered) (kept : List (List ℕ)) : Type 0 where
  pub plan : PlanValue
  pub past : List Entry
  pub kept_are : kept ≡ new_bodies plan past
  pub holds : told → HoldsFlow plan past found
  pub legal : IsLegalBook (carried plan past)

-- why nothing was read to carry over: what the fault says of the file is so; a fault of the disk and want of memory say
-- nothing of it
abbrev pub RefusesOld : OldFault → Recovered → Type 0
RefusesOld fault.Disk found = Unit {0}
RefusesOld fault.Memory found = Unit {0}
RefusesOld (fault.NotABook offset byte) found = IsNoBook found offset byte
RefusesOld fault.NoFlow found = HoldsNoFlow found

-- nothing was read to carry over: the file of that name is as it was, what the fault says of it is so, and the disk's
-- comes only where the count of them rose
pub record IsUnread (name : List ℕ) (why : OldFault) (entry now : DeskState) : Type 0 where
  pub on_disk : OnDisk anything entry now
  pub untouched : Untouched name entry now
  pub refused : IsTrue entry.tells → RefusesOld why (old_at entry name)
  pub cause : why ≡ fault.Disk → Rises entry.disk_faults now.disk_faults

-- a flow was read, and the file of that name is as it was; of each file a crash now leaves nothing that it couldn't
-- leave before, but for no bytes where it was missing
pub record IsRead (name : List ℕ) (kept : List (List ℕ)) (entry now : DeskState) : Type 0 where
  pub on_disk : OnDisk anything entry now
  pub untouched : Untouched name entry now
  pub set : IsTrue entry.tells → IsSet name entry now
  pub left : IsTrue entry.tells → (other image : List ℕ) → now.left other image → entry.left other image ⊎ (image ≡ [])
  pub flow : HasFlow (IsTrue entry.tells) (old_at entry name) kept
