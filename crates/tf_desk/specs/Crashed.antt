-- What a crash inside a call of a desk in memory leaves.
use Rattle.std.specs.Prelude.{◌≡◌, ℕ, ◌+◌, ◌-◌, ◌≤◌, ◌<◌, max, min, Bool, true, false, ◌&&◌, ◌==◌, if◌then◌else◌, List, [], ◌∷◌, ◌++◌, length, drop, reverse, Option, Some, None, is_some, slice_index, unwrap_or, nat_lt, nat_le}
use Rattle.std.specs.List.{All, list_any}
use Rattle.std.specs.Cmp.Lexicographic.{pointwise}
use Rattle.tf_desk.specs.declared.crashing.Span.{Span}
use Rattle.tf_desk.specs.declared.crashing.Traced.{Traced}
use Rattle.tf_desk.specs.declared.past.MemoryFile.{MemoryFile}
use Rattle.tf_desk.specs.declared.past.Noted.{Noted}
use Rattle.tf_desk.specs.declared.past.Noted.TheVariants.{Picked, Wrote, Synced, Said}
use Rattle.tf_desk.specs.declared.crashing.Torn.{Torn}
use Rattle.tf_desk.specs.declared.crashing.Torn.TheVariants.{Old, New, Mixed}
use Rattle.tf_desk.specs.Acts.{Act, picked, wrote, synced, said, names, picked_after, files_after, shown_after, content_after, left_after, crashes_after}
use Rattle.tf_desk.specs.Crash.{bytes_of, IsLeft}
use Rattle.tf_desk.specs.MemoryDesk.{Held, has_name}

-- ---- a file that a crash tears

-- the bytes of a file as its last sync put them on the disk
abbrev pub synced_after : List Act → List ℕ → List ℕ
synced_after [] name = []
synced_after (picked new ∷ past) name = synced_after past name
synced_after (wrote at bytes ∷ past) name = synced_after past name
synced_after (synced ∷ past) name =
    if names (picked_after past) name then unwrap_or (files_after past name) [] else synced_after past name
synced_after (said bytes ∷ past) name = synced_after past name

-- where it was written since then
abbrev pub spans_after : List Act → List ℕ → List Span
spans_after [] name = []
spans_after (picked new ∷ past) name = spans_after past name
spans_after (wrote at bytes ∷ past) name =
    if names (picked_after past) name then spans_after past name ++ record { at = at; count = length bytes } ∷ []
    else spans_after past name
spans_after (synced ∷ past) name = if names (picked_after past) name then [] else spans_after past name
spans_after (said bytes ∷ past) name = spans_after past name

-- the place is in that range
abbrev pub is_in_span : ℕ → Span → Bool
is_in_span place span = nat_le span.at place && nat_lt place (span.at + span.count)

-- a length between the old and the new one, and each byte that was on the disk and wasn't written since then
pub record IsMixed (old new : List ℕ) (spans : List Span) (image : List ℕ) : Type 0 where
  pub no_shorter : length old ≤ length image
  pub no_longer : length image ≤ max (length old) (length new)
  pub same : (place : ℕ) → place < length old → list_any (is_in_span place) spans ≡ false
      → slice_index image place ≡ slice_index old place

-- a file torn so: as the last sync had it, as it was written, or any bytes where it isn't synced
abbrev pub IsTorn : Torn → List ℕ → List ℕ → List Span → List ℕ → Type 0
IsTorn Old old new spans image = image ≡ old
IsTorn New old new spans image = image ≡ new
IsTorn (Mixed seed) old new spans image = IsMixed old new spans image

-- the picked file torn so, after what was done; no bytes where no file is picked
abbrev pub IsTornAfter : Torn → List Act → Option (List ℕ) → List ℕ → Type 0
IsTornAfter torn past None image = image ≡ []
IsTornAfter torn past (Some name) image =
    IsTorn torn (synced_after past name) (unwrap_or (files_after past name) []) (spans_after past name) image

-- ---- the moments of a call

-- what was done up to a moment
abbrev pub acts_at : List Act → ℕ → List Act
acts_at past moment = drop (length past - moment) past

-- when the call of that number ended
abbrev pub ended_at : Held → ℕ → ℕ
ended_at held call =
    if nat_lt call (length held.began) then min (slice_index held.began call) (length held.past) else length held.past

-- when it began
abbrev pub began_at : Held → ℕ → ℕ
began_at held call = min (slice_index held.began (call - 1)) (ended_at held call)

-- a sync was done last
abbrev pub ends_in_sync : List Act → Bool
ends_in_sync [] = false
ends_in_sync (picked name ∷ past) = false
ends_in_sync (wrote at bytes ∷ past) = false
ends_in_sync (synced ∷ past) = true
ends_in_sync (said bytes ∷ past) = false

-- the end of what was done between the two moments, but for a sync that came last
abbrev pub unsynced_at : List Act → ℕ → ℕ → ℕ
unsynced_at past began ended = if nat_lt began ended && ends_in_sync (acts_at past ended) then ended - 1 else ended

-- the moment whose files a crash in the call tears: its beginning, for what was before; else its end, its own sync not
-- done
abbrev pub struck_at : Torn → Held → ℕ → ℕ
struck_at Old held call = began_at held call
struck_at New held call = unsynced_at held.past (began_at held call) (ended_at held call)
struck_at (Mixed seed) held call = unsynced_at held.past (began_at held call) (ended_at held call)

-- what was done by then
abbrev pub struck : Torn → Held → ℕ → List Act
struck torn held call = acts_at held.past (struck_at torn held call)

-- ---- the desk that is left

-- the bytes of a file beside that one, as they read after what was done
abbrev pub other_file : List Act → List ℕ → List ℕ → Option (List ℕ)
other_file past name other = if pointwise ◌==◌ name other then None else files_after past other

-- these are the files beside that one, as they read after what was done: no others, and of those names that the files
-- have all that were there
pub record AreOthers (files : List MemoryFile) (past : List Act) (name : List ℕ)
    (others : List MemoryFile) : Type 0 where
  pub each : All (λ file. other_file past name file.name ≡ Some file.bytes.items) others
  pub all : (other : List ℕ) → list_any (has_name other) files ≡ true → is_some (other_file past name other) ≡ true
      → list_any (has_name other) others ≡ true

-- what was done, newest first, by a desk that has shown this text, and on whose disk these files were put, the last of
-- them first
abbrev pub acts_keeping : List MemoryFile → List ℕ → List Act
acts_keeping [] text = said text ∷ []
acts_keeping (file ∷ files) text = synced ∷ wrote 0 file.bytes.items ∷ picked file.name ∷ acts_keeping files text

-- what was done, newest first, by a desk on whose disk are these files and that one, which it has picked, and that has
-- shown this text
abbrev pub acts_left : List MemoryFile → (name image text : List ℕ) → List Act
acts_left others name image text = synced ∷ wrote 0 image ∷ picked name ∷ acts_keeping (reverse others) text

-- after what was done, a desk that has the picked file torn so, the other files as they read, and the text; a crash
-- then may leave this file, and all of every file is on the disk now
pub record IsTornDesk (torn : Torn) (past new : List Act) : Type 0 where
  pub picked : picked_after new ≡ picked_after past
  pub image : IsTornAfter torn past (picked_after past) (bytes_of (content_after new))
  pub others : (name : List ℕ) → ¬ (picked_after past ≡ Some name) → files_after new name ≡ files_after past name
  pub text : shown_after new ≡ shown_after past
  pub left : IsLeft (picked_after past) (left_after past) (bytes_of (content_after new))
  pub durable : (image : List ℕ) → IsLeft (picked_after new) (left_after new) image
      → image ≡ bytes_of (content_after new)
  pub on_disk : (name image : List ℕ) → left_after new name image → files_after new name ≡ Some image

-- The desk that a crash in the call leaves: its files and its text are those of the moment that the crash strikes, the
-- picked file torn so and the others as they read. A crash at a moment of the call may leave the pair of that file and
-- the text. The calls are numbered anew, and no count rose.
pub record IsCrashed (torn : Torn) (call : ℕ) (old new : Held) : Type 0 where
  pub leaves : IsTornDesk torn (struck torn old call) new.past
  pub allowed : crashes_after (acts_at old.past (ended_at old call)) (began_at old call)
      (bytes_of (content_after new.past)) (shown_after new.past)
  pub fresh : new ≡ record { past = new.past; began = []; disk_faults = 0; out_faults = 0; asks = 0; turns = 0 }

-- ---- a file on the way through a log

-- what is known of the file of that name after what was done
pub record IsTraced (past : List Act) (name : List ℕ) (traced : Traced) : Type 0 where
  pub picked : traced.picked ≡ names (picked_after past) name
  pub bytes : traced.bytes.items ≡ unwrap_or (files_after past name) []
  pub synced : traced.synced.items ≡ synced_after past name
  pub spans : traced.spans.items ≡ spans_after past name

-- the entry notes a pick of that name
abbrev pub notes_pick : List ℕ → Noted → Bool
notes_pick name (Picked other) = pointwise ◌==◌ other name
notes_pick name (Wrote at count) = false
notes_pick name Synced = false
notes_pick name (Said count) = false

-- the name that the newest pick of a log picked
abbrev pub picked_in_log : List Noted → Option (List ℕ)
picked_in_log [] = None
picked_in_log (Picked name ∷ log) = Some name
picked_in_log (Wrote at count ∷ log) = picked_in_log log
picked_in_log (Synced ∷ log) = picked_in_log log
picked_in_log (Said count ∷ log) = picked_in_log log

-- the act that an entry notes, of these bytes; a text may be any
abbrev pub IsActOf : Noted → List ℕ → Act → Type 0
IsActOf (Picked name) bytes act = act ≡ picked name
IsActOf (Wrote at count) bytes act = act ≡ wrote at bytes
IsActOf Synced bytes act = act ≡ synced
IsActOf (Said count) bytes act = (text : List ℕ) × (act ≡ said text)

-- the entry notes a sync
abbrev pub notes_sync : Noted → Bool
notes_sync (Picked name) = false
notes_sync (Wrote at count) = false
notes_sync Synced = true
notes_sync (Said count) = false
