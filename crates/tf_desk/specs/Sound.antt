-- What the fields of a desk in memory keep.
use Rattle.std.specs.Prelude.{◌≡◌, ℕ, List, length, Option, reverse}
use Rattle.std.specs.List.{sum_by}
use Rattle.tf_desk.specs.declared.past.MemoryFile.{MemoryFile}
use Rattle.tf_desk.specs.declared.past.Past.TheInside.{Inside}
use Rattle.tf_desk.specs.Acts.{Act, picked_after, files_after, shown_after}
use Rattle.tf_desk.specs.MemoryDesk.{acts_of, written_count, said_count, file_at, IsPlace}

-- the shown text, the files and the place of the picked one are those after the acts
pub record Keeps (past : List Act) (shown : List ℕ) (files : List MemoryFile) (place : Option ℕ) : Type 0 where
  pub text : shown ≡ shown_after past
  pub named : (name : List ℕ) → file_at files name ≡ files_after past name
  pub picked : IsPlace files place (picked_after past)

-- the acts that were noted, newest first
abbrev pub acts : Inside → List Act
acts past = acts_of (reverse past.log.items) past.written.items past.shown.items

-- the fields keep what follows from the acts, and just the bytes that the log counts
pub record IsSound (past : Inside) : Type 0 where
  pub keeps : Keeps (acts past) past.shown.items past.files.items past.picked
  pub wrote : sum_by written_count past.log.items ≡ length past.written.items
  pub said : sum_by said_count past.log.items ≡ length past.shown.items
