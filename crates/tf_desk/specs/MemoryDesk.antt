-- What a desk in memory holds.
use Rattle.std.specs.Prelude.{◌≡◌, ℕ, Bool, List, [], ◌∷◌, Option, Some, None, ◌-◌, length, take, drop, if◌then◌else◌, ◌==◌, zero, suc, true, false}
use Rattle.std.specs.Cmp.Lexicographic.{pointwise}
use Rattle.tf_desk.specs.declared.past.MemoryFile.{MemoryFile}
use Rattle.tf_desk.specs.declared.past.Noted.{Noted}
use Rattle.tf_desk.specs.declared.past.Noted.TheVariants.{Picked, Wrote, Synced, Said}
use Rattle.tf_desk.specs.Acts.{Act, picked, wrote, synced, said, shown_after, content_after, left_after, crashes_after}
use Rattle.tf_desk.specs.State.{DeskState}

-- what it has done, newest first; how much it had done when each of its calls began; and its four counts
pub record Held : Type 0 where
  pub past : List Act
  pub began : List ℕ
  pub disk_faults : ℕ
  pub out_faults : ℕ
  pub asks : ℕ
  pub turns : ℕ

-- what it tells
abbrev pub state_of : Held → DeskState
state_of held = record {
  tells = true;
  shown = Some (shown_after held.past);
  content = content_after held.past;
  left = left_after held.past;
  crashes = crashes_after held.past;
  disk_faults = held.disk_faults;
  out_faults = held.out_faults;
  asks = held.asks;
  turns = held.turns;
}

-- The acts of a log, newest first. A log keeps how many bytes were written or said; those of the newest stand last.
abbrev pub acts_of : List Noted → List ℕ → List ℕ → List Act
acts_of [] written shown = []
acts_of (Picked name ∷ log) written shown = picked name ∷ acts_of log written shown
acts_of (Wrote at count ∷ log) written shown =
    wrote at (drop (length written - count) written) ∷ acts_of log (take (length written - count) written) shown
acts_of (Synced ∷ log) written shown = synced ∷ acts_of log written shown
acts_of (Said count ∷ log) written shown =
    said (drop (length shown - count) shown) ∷ acts_of log written (take (length shown - count) shown)

-- how many bytes an entry wrote
abbrev pub written_count : Noted → ℕ
written_count (Picked name) = 0
written_count (Wrote at count) = count
written_count Synced = 0
written_count (Said count) = 0

-- how many bytes it said
abbrev pub said_count : Noted → ℕ
said_count (Picked name) = 0
said_count (Wrote at count) = 0
said_count Synced = 0
said_count (Said count) = count

-- the file has this name
abbrev pub has_name : List ℕ → MemoryFile → Bool
has_name name file = pointwise ◌==◌ file.name name

-- the bytes of the first file of that name
abbrev pub file_at : List MemoryFile → List ℕ → Option (List ℕ)
file_at [] name = None
file_at (file ∷ files) name = if has_name name file then Some file.bytes.items else file_at files name

-- the first file of that name stands at this place
abbrev pub IsFirst : List MemoryFile → ℕ → List ℕ → Type 0
IsFirst [] place name = ⊥
IsFirst (file ∷ files) zero name = has_name name file ≡ true
IsFirst (file ∷ files) (suc place) name = (has_name name file ≡ false) × IsFirst files place name

-- the place of the picked file; no place where none is picked
abbrev pub IsPlace : List MemoryFile → Option ℕ → Option (List ℕ) → Type 0
IsPlace files None None = Unit {0}
IsPlace files None (Some name) = ⊥
IsPlace files (Some place) None = ⊥
IsPlace files (Some place) (Some name) = IsFirst files place name
