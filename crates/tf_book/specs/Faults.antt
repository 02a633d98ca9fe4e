-- Why a call of a book failed.
use Rattle.std.specs.Prelude.{◌≡◌, Option, Some, None}
use Rattle.tf_book.specs.declared.faults.BookFault.{BookFault}
use Rattle.tf_book.specs.declared.faults.BookFault.TheVariants as fault
use Rattle.tf_book.specs.declared.faults.Halt.{Halt}
use Rattle.tf_book.specs.declared.faults.Halt.TheVariants as halt

-- the fault of a call that was halted for this cause
abbrev pub book_fault_of : Halt → BookFault
book_fault_of halt.Disk = fault.Disk
book_fault_of halt.Out = fault.Out
book_fault_of (halt.Full size need) = fault.Full size need
book_fault_of halt.Memory = fault.Memory

-- the call halted the book, for the cause that it answers
abbrev pub IsHaltedBy : Option Halt → BookFault → Type 0
IsHaltedBy None answer = ⊥
IsHaltedBy (Some cause) answer = answer ≡ book_fault_of cause

-- why a call of a book failed: it was halted before, for that cause; or the call halted it
abbrev pub IsFault : Option Halt → Option Halt → BookFault → Type 0
IsFault (Some cause) after answer = (answer ≡ fault.Halted cause) × (after ≡ Some cause)
IsFault None after answer = IsHaltedBy after answer
