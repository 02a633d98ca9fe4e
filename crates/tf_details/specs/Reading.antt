-- How the bodies of a book of several flows are read, one after another: a machine is made for each detail.
use Rattle.std.specs.Prelude.{◌≡◌, ◌<◌, ℕ, List, [], ◌∷◌, ◌++◌, length, nat_eq, if◌then◌else◌, Bool, None, map, slice_index_or, ◌≤◌, vec_capacity}
use Rattle.std.specs.List.{slice_set}
use Rattle.tf_flow.specs.Plan.{PlanValue}
use Rattle.tf_states.specs.declared.record.Entry.{Entry}
use Rattle.tf_entries.specs.Entries.{entry_bytes}
use Rattle.tf_entries.specs.Plans.{plan_bytes}
use Rattle.tf_machine.specs.Machine.{MachineValue, StandsFor}
use Rattle.tf_details.specs.Elements.{Element, detail, entry, details, history, detail_name, has_name, number_among, bodies_of, IsHistoryOf, IsEntryOf, IsLegalBook}
use Rattle.tf_details.specs.Marks.{elements_shown}
use Rattle.tf_details.specs.declared.gathering.Gathering.{Gathering}

-- ---- what is made of a book

-- the plan of a machine
abbrev pub plan_in : MachineValue → PlanValue
plan_in machine = machine.plan

-- the plans of machines
abbrev pub plans_in : List MachineValue → List PlanValue
plans_in machines = map plan_in machines

-- a machine of the detail with that name
abbrev pub is_named : List ℕ → MachineValue → Bool
is_named name machine = has_name name machine.plan

-- a machine for each detail of the book, in the order of their numbers: it has the detail's plan, and stands for the
-- detail's history
pub record AreMachinesOf (machines : List MachineValue) (book : List Element) : Type 0 where
  pub plans : plans_in machines ≡ details book
  pub stand : (number : ℕ) (d : MachineValue) → number < length machines
      → StandsFor (slice_index_or machines number d) (history number book)

-- just these bodies were read: they are those of a legal book, of which the machines are
pub record HasReplayed (machines : List MachineValue) (bodies : List (List ℕ)) : Type 0 where
  pub book : List Element
  pub legal : IsLegalBook book
  pub bodies_are : bodies ≡ bodies_of book
  pub machines_are : AreMachinesOf machines book

-- the elements that were read
abbrev pub elements_in : {H : Type 0} → Gathering H → List Element
elements_in gathering = elements_shown gathering.marks.items

-- just these bodies were read: they are those of a legal book, whose elements are marked and of which the machines are;
-- and the history of one detail was gathered, as what keeps it tells
pub record HasGathered {H : Type 0} (keeps : H → List Entry → Type 0) (gathering : Gathering H)
    (bodies : List (List ℕ)) : Type 0 where
  pub legal : IsLegalBook (elements_in gathering)
  pub bodies_are : bodies ≡ bodies_of (elements_in gathering)
  pub machines_are : AreMachinesOf gathering.details (elements_in gathering)
  pub kept : keeps gathering.kept (history gathering.number (elements_in gathering))
  pub room : 67108864 ≤ vec_capacity gathering.marks

-- ---- how one element is read

-- the plan of a new detail was read of this form, and a machine of it stands behind the others
pub record HasReadDetail (old new : List MachineValue) (form : List ℕ) : Type 0 where
  pub machine : MachineValue
  pub form_is : plan_bytes machine.plan ≡ form
  pub history : IsHistoryOf machine.plan []
  pub fresh : StandsFor machine []
  pub few : length old < 64
  pub unnamed : number_among (plans_in old) (detail_name machine.plan) ≡ None
  pub added : new ≡ old ++ machine ∷ []

-- an entry of the plan of that detail was read of this form
pub record IsReadEntry (machines : List MachineValue) (number : ℕ) (form : List ℕ) (e : Entry) : Type 0 where
  pub within : number < length machines
  pub is_entry : (d : MachineValue) → IsEntryOf (slice_index_or machines number d).plan e
  pub form_is : entry_bytes e ≡ form

-- the machine of that detail took the entry, which follows the history for which it stood; the others stay
pub record HasTaken (old new : List MachineValue) (number : ℕ) (e : Entry) : Type 0 where
  pub machine : MachineValue
  pub replaced : new ≡ slice_set old number machine
  pub plan : (d : MachineValue) → machine.plan ≡ (slice_index_or old number d).plan
  pub stands : (d : MachineValue) (past : List Entry) → StandsFor (slice_index_or old number d) past
      → StandsFor machine (e ∷ past)

-- the same while the history of one detail is gathered: the new detail is marked
pub record HasGatheredDetail {H : Type 0} (old new : Gathering H) (form : List ℕ) : Type 0 where
  pub read : HasReadDetail old.details new.details form
  pub marked : elements_in new ≡ detail read.machine.plan ∷ elements_in old
  pub number : new.number ≡ old.number
  pub kept : new.kept ≡ old.kept
  pub room : vec_capacity old.marks ≤ vec_capacity new.marks

-- and the entry is, and one of that detail is kept
pub record HasGatheredEntry {H : Type 0} (keeps : H → List Entry → Type 0) (old new : Gathering H) (number : ℕ)
    (form : List ℕ) : Type 0 where
  pub e : Entry
  pub read : IsReadEntry old.details number form e
  pub taken : HasTaken old.details new.details number e
  pub marked : elements_in new ≡ entry number e ∷ elements_in old
  pub same : new.number ≡ old.number
  pub kept : (past : List Entry) → keeps old.kept past
      → keeps new.kept (if nat_eq number old.number then e ∷ past else past)
  pub room : vec_capacity old.marks ≤ vec_capacity new.marks
