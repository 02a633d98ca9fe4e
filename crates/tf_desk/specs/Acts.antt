-- What a desk in memory has done, newest first, and what follows from it.
use Rattle.std.specs.Prelude.{◌≡◌, ◌⊎◌, ℕ, ◌+◌, ◌≤◌, Bool, false, if◌then◌else◌, MatchBool, List, [], ◌∷◌, ◌++◌, length, Option, Some, None, unwrap_or, ◌==◌}
use Rattle.std.specs.Cmp.Lexicographic.{pointwise}
use Rattle.tf_desk.specs.Crash.{Mark, at_pick, at_sync, Content, written, Torn, IsLeft, IsLeftNow, ShowsPrefix}

-- what changed the desk: a pick of a name, bytes written at an offset, a sync, bytes said
pub data Act : Type 0 where
  picked : List ℕ → Act
  wrote : ℕ → List ℕ → Act
  synced : Act
  said : List ℕ → Act

-- the name is the picked one
abbrev pub names : Option (List ℕ) → List ℕ → Bool
names None name = false
names (Some picked_name) name = pointwise ◌==◌ picked_name name

-- the name that was picked last
abbrev pub picked_after : List Act → Option (List ℕ)
picked_after [] = None
picked_after (picked name ∷ past) = Some name
picked_after (wrote at bytes ∷ past) = picked_after past
picked_after (synced ∷ past) = picked_after past
picked_after (said bytes ∷ past) = picked_after past

-- the bytes of each file as they read
abbrev pub files_after : List Act → List ℕ → Option (List ℕ)
files_after [] name = None
files_after (picked new ∷ past) name =
    if pointwise ◌==◌ new name then Some (unwrap_or (files_after past name) []) else files_after past name
files_after (wrote at bytes ∷ past) name =
    if names (picked_after past) name then Some (written (unwrap_or (files_after past name) []) at bytes)
    else files_after past name
files_after (synced ∷ past) name = files_after past name
files_after (said bytes ∷ past) name = files_after past name

-- the text shown
abbrev pub shown_after : List Act → List ℕ
shown_after [] = []
shown_after (picked name ∷ past) = shown_after past
shown_after (wrote at bytes ∷ past) = shown_after past
shown_after (synced ∷ past) = shown_after past
shown_after (said bytes ∷ past) = shown_after past ++ bytes

-- when a pick or a sync answered Ok
abbrev pub marks_after : List Act → List Mark
marks_after [] = []
marks_after (picked name ∷ past) = marks_after past ++ at_pick name (length past + 1) ∷ []
marks_after (wrote at bytes ∷ past) = marks_after past
marks_after (synced ∷ past) = marks_after past ++ at_sync (length past + 1) ∷ []
marks_after (said bytes ∷ past) = marks_after past

-- what the desk tells; each act is one step of the clock
abbrev pub content_after : List Act → Content
content_after past =
    record { files = files_after past; picked = picked_after past; clock = length past; marks = marks_after past }

-- what a crash now may leave of the file of a name: a new file is empty, a write is torn, a sync leaves what is read
abbrev pub left_after : List Act → List ℕ → List ℕ → Type 0
left_after [] name image = ⊥
left_after (picked new ∷ past) name image =
    left_after past name image ⊎ ((name ≡ new) × (files_after past name ≡ None) × (image ≡ []))
left_after (wrote at bytes ∷ past) name image =
    MatchBool (names (picked_after past) name)
    ((was : List ℕ) × left_after past name was × Torn at (length bytes) was image) (left_after past name image)
left_after (synced ∷ past) name image =
    MatchBool (names (picked_after past) name) (files_after past name ≡ Some image) (left_after past name image)
left_after (said bytes ∷ past) name image = left_after past name image

-- a crash after these acts may leave this pair
abbrev pub leaves_now : List Act → List ℕ → List ℕ → Type 0
leaves_now past = IsLeftNow (content_after past) (left_after past) (Some (shown_after past))

-- a crash inside an act may leave this pair, beside those before it and after it: while bytes are said, a prefix of
-- them
abbrev pub leaves_inside : Act → List Act → List ℕ → List ℕ → Type 0
leaves_inside (picked name) past image text = ⊥
leaves_inside (wrote at bytes) past image text = ⊥
leaves_inside synced past image text = ⊥
leaves_inside (said bytes) past image text =
    IsLeft (picked_after past) (left_after past) image × ShowsPrefix (Some (shown_after past)) bytes (Some text)

-- a crash at a moment since that one may leave this pair
abbrev pub crashes_after : List Act → ℕ → List ℕ → List ℕ → Type 0
crashes_after [] start image text = (start ≤ 0) × leaves_now [] image text
crashes_after (act ∷ past) start image text =
    ((start ≤ length past + 1) × leaves_now (act ∷ past) image text)
    ⊎ (((start ≤ length past) × leaves_inside act past image text) ⊎ crashes_after past start image text)
