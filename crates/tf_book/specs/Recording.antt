-- What becomes of a book where an entry is to be recorded.
use Rattle.std.specs.Prelude.{◌≡◌, ◌≤◌, List, [], ◌∷◌, ◌++◌, length, Option, Some, None, Result, Ok, Err, if◌then◌else◌}
use Rattle.tf_states.specs.declared.record.Entry.{Entry}
use Rattle.tf_entries.specs.Entries.{entry_bytes}
use Rattle.tf_journal.specs.Format.{length_bytes}
use Rattle.tf_machine.specs.Machine.{MachineValue, StandsFor}
use Rattle.tf_details.specs.Elements.{IsForm, Contents, with_entries}
use Rattle.tf_book.specs.Histories.{past_shown}
use Rattle.tf_book.specs.SessionInvariant.{is_logged}
use Rattle.tf_book.specs.declared.faults.Halt.{Halt}
use Rattle.tf_book.specs.declared.faults.Halt.TheVariants as halt
use Rattle.tf_book.specs.declared.history.History.{History}

-- the book is halted with the fault, if there is one
abbrev pub halt_after : {X : Type 0} → Result X Halt → Option Halt
halt_after (Ok x) = None
halt_after (Err halt) = Some halt

-- the history has the entry, where it was recorded
abbrev pub past_after : Entry → List Entry → Result (Unit {0}) Halt → List Entry
past_after e past result = if is_logged result then e ∷ past else past

-- the file holds the entry behind what it held, where it was recorded
abbrev pub contents_after : Entry → Contents → Result (Unit {0}) Halt → Contents
contents_after e contents result = if is_logged result then with_entries contents (e ∷ []) else contents

-- the entry that couldn't be recorded last: this one, where the disk failed or the journal is full
abbrev pub failed_after : Entry → Option Entry → Result (Unit {0}) Halt → Option Entry
failed_after e before (Ok u) = before
failed_after e before (Err halt.Out) = before
failed_after e before (Err halt.Memory) = before
failed_after e before (Err halt.Disk) = Some e
failed_after e before (Err (halt.Full size need)) = Some e

-- a book that isn't halted is halted for want of memory
abbrev pub halt_for_memory : Option Halt → Option Halt
halt_for_memory None = Some halt.Memory
halt_for_memory (Some cause) = Some cause

-- an entry was kept: the machine stands for the history with it, and its body, which a book can read again, is in
-- memory behind the others
pub record KeepsEntry (entry : Entry) (machine next : MachineValue) (old new : History) : Type 0 where
  pub stands : (past : List Entry) → StandsFor machine past → StandsFor next (entry ∷ past)
  pub entries : past_shown new.entries.items ≡ entry ∷ past_shown old.entries.items
  pub bodies : new.bodies.items ≡ old.bodies.items ++ (length_bytes (length (entry_bytes entry)) ++ entry_bytes entry)
  pub form : IsForm entry
  pub long : 1 ≤ length (entry_bytes entry)

-- none was kept
pub record KeepsNothing (machine next : MachineValue) (old new : History) : Type 0 where
  pub same : next ≡ machine
  pub entries : new.entries.items ≡ old.entries.items
  pub bodies : new.bodies.items ≡ old.bodies.items
