-- What the calls of the system so far make of what the files held at first.
use Rattle.std.specs.Prelude.{◌≡◌, ◌≢◌, ◌⊎◌, ℕ, suc, ◌≤◌, nat_le, Bool, true, ◌&&◌, if◌then◌else◌, MatchBool, List, [], ◌∷◌, ◌++◌, length, take, drop, Option, Some, None, unwrap_or, is_some, is_none, ◌==◌, IsTrue}
use Rattle.std.specs.Cmp.Lexicographic.{pointwise}
use Rattle.tf_trace.specs.Calls.{Call, opened, made, sized, gave, wrote, tore, synced, said}
use Rattle.tf_desk.specs.Crash.{at_pick, at_sync, written, Torn, Pairs, IsLeftNow, shown_with}
use Rattle.tf_desk.specs.State.{DeskState, bytes_now, SaysPrefix, nothing_left}
use Rattle.tf_desk.specs.Acts.{names}

-- what no call can tell: the bytes of each file at first, what else a crash then may have left of it, and how many of
-- its bytes a write that failed put, by the number of calls before it
pub record First : Type 0 where
  pub files : List ℕ → Option (List ℕ)
  pub left : List ℕ → List ℕ → Bool
  pub put : ℕ → ℕ

-- before any call
abbrev pub at_first : First → DeskState
at_first first = record {
  tells = true;
  shown = Some [];
  content = record { files = first.files; picked = None; clock = 0; marks = [] };
  left =
      λ name image. (first.files name ≡ Some image) ⊎ ((first.files name ≢ None) × IsTrue (first.left name image));
  crashes = λ start image text. (start ≤ 0) × ((image ≡ []) × (Some [] ≡ Some text));
  disk_faults = 0;
  out_faults = 0;
  asks = 0;
  turns = 0;
}

-- ---- a step of the clock

-- a crash since a moment, after a step of the clock: what it might leave before, what it may leave inside the step, or
-- what it may leave now
abbrev pub crashes_on : DeskState → Pairs → Pairs → ℕ → List ℕ → List ℕ → Type 0
crashes_on s inside now start image text =
    ((start ≤ s.content.clock) × (s.crashes start image text ⊎ inside image text))
    ⊎ ((start ≤ suc s.content.clock) × now image text)

-- the state after one step of the clock
abbrev pub ticked : DeskState → Pairs → DeskState → DeskState
ticked s inside new = record new { crashes = crashes_on s inside (IsLeftNow new.content new.left new.shown) }

-- ---- an answer that the replay tells already

-- the answer agrees, or the state tells no more
abbrev pub after_answer : Bool → DeskState → DeskState
after_answer agreed s = record s { tells = s.tells && agreed }

-- the file has these bytes at that offset; where there are none, it ends there
abbrev pub agrees : List ℕ → ℕ → List ℕ → Bool
agrees file at [] = nat_le (length file) at
agrees file at (byte ∷ bytes) = pointwise ◌==◌ (take (length (byte ∷ bytes)) (drop at file)) (byte ∷ bytes)

-- the file of that name has no bytes, or there is none
abbrev pub reads_empty : List ℕ → DeskState → Bool
reads_empty name s = length (unwrap_or (s.content.files name) []) == 0

-- ---- a file that is picked or made

-- the files with one of that name: one that isn't there is empty
abbrev pub files_opened : List ℕ → DeskState → List ℕ → Option (List ℕ)
files_opened name s other =
    if pointwise ◌==◌ name other then Some (unwrap_or (s.content.files other) []) else s.content.files other

-- what a crash leaves then of each file: of a new one no bytes
abbrev pub left_opened : List ℕ → DeskState → List ℕ → List ℕ → Type 0
left_opened name s other image = s.left other image ⊎ ((other ≡ name) × (s.content.files other ≡ None) × (image ≡ []))

-- the file was picked; whether there was none
abbrev pub after_opened : Bool → List ℕ → DeskState → DeskState
after_opened none name s = ticked s nothing_left record s {
  tells = s.tells && (if none then reads_empty name s else is_some (s.content.files name));
  content = record {
    files = files_opened name s;
    picked = Some name;
    clock = suc s.content.clock;
    marks = s.content.marks ++ at_pick name (suc s.content.clock) ∷ [];
  };
  left = left_opened name s;
}

-- an empty file was made, and not picked
abbrev pub after_made : List ℕ → DeskState → DeskState
after_made name s = ticked s nothing_left record s {
  tells = s.tells && is_none (s.content.files name);
  content = record s.content { files = files_opened name s; clock = suc s.content.clock };
  left = left_opened name s;
}

-- ---- bytes that are written, put on the disk or said

-- the files with these bytes in the picked one, from that offset on
abbrev pub files_written : ℕ → List ℕ → DeskState → List ℕ → Option (List ℕ)
files_written at kept s other =
    if names s.content.picked other then Some (written (unwrap_or (s.content.files other) []) at kept)
    else s.content.files other

-- what a crash leaves of each file once n bytes are written to the picked one: that is torn there
abbrev pub left_torn : ℕ → ℕ → DeskState → List ℕ → List ℕ → Type 0
left_torn at n s other image =
    MatchBool (names s.content.picked other) ((was : List ℕ) × s.left other was × Torn at n was image)
    (s.left other image)

-- of n bytes that were to be written these were; a crash inside the write leaves what it leaves after it
abbrev pub after_written : ℕ → ℕ → List ℕ → DeskState → DeskState
after_written at n kept s = ticked s (IsLeftNow s.content (left_torn at n s) s.shown) record s {
  content = record s.content { files = files_written at kept s; clock = suc s.content.clock };
  left = left_torn at n s;
}

-- what a crash leaves of each file after a sync: of the picked one what is read
abbrev pub left_synced : DeskState → List ℕ → List ℕ → Type 0
left_synced s other image =
    MatchBool (names s.content.picked other) (s.content.files other ≡ Some image) (s.left other image)

-- the picked file was put on the disk
abbrev pub after_synced : DeskState → DeskState
after_synced s = ticked s nothing_left record s {
  content = record s.content {
    clock = suc s.content.clock;
    marks = s.content.marks ++ at_sync (suc s.content.clock) ∷ [];
  };
  left = left_synced s;
}

-- these bytes were said
abbrev pub after_said : List ℕ → DeskState → DeskState
after_said bytes s = ticked s (SaysPrefix s bytes) record s {
  shown = shown_with s.shown bytes;
  content = record s.content { clock = suc s.content.clock };
}

-- ---- all calls

-- after one call more; of a write that failed so many bytes were put
abbrev pub after_one : ℕ → Call → DeskState → DeskState
after_one put (opened none name) s = after_opened none name s
after_one put (made name) s = after_made name s
after_one put (sized n) s = after_answer (n == length (bytes_now s)) s
after_one put (gave at bytes) s = after_answer (agrees (bytes_now s) at bytes) s
after_one put (wrote at bytes) s = after_written at (length bytes) bytes s
after_one put (tore at bytes) s = after_written at (length bytes) (take put bytes) s
after_one put synced s = after_synced s
after_one put (said bytes) s = after_said bytes s

-- What a desk tells after these calls, of which the newest comes first. It tells its files as long as each answer
-- agrees with what the calls before it make of them. Its four counts stand beside the calls, and are 0 here.
abbrev pub replay : First → List Call → DeskState
replay first [] = at_first first
replay first (call ∷ past) = after_one (first.put (length past)) call (replay first past)

-- each open, each size and each read that the system answered agrees with what the files held at first and what was
-- written since
abbrev pub IsHonest : First → List Call → Type 0
IsHonest first calls = IsTrue (replay first calls).tells

-- the state with these counts of disk faults, output faults, asks for a stop and questions about one
abbrev pub with_counts : ℕ → ℕ → ℕ → ℕ → DeskState → DeskState
with_counts disk_faults out_faults asks turns s =
    record s { disk_faults = disk_faults; out_faults = out_faults; asks = asks; turns = turns }

-- it holds of the two states whatever their counts are, of which that of disk faults alone may rise
abbrev pub WithCounts : (DeskState → DeskState → Type 0) → DeskState → DeskState → Type 0
WithCounts Does old new =
    (before now out_faults asks turns : ℕ) → before ≤ now
    → Does (with_counts before out_faults asks turns old) (with_counts now out_faults asks turns new)

-- the same, where that of output faults alone may rise
abbrev pub WithOutputCounts : (DeskState → DeskState → Type 0) → DeskState → DeskState → Type 0
WithOutputCounts Does old new =
    (before now disk_faults asks turns : ℕ) → before ≤ now
    → Does (with_counts disk_faults before asks turns old) (with_counts disk_faults now asks turns new)
