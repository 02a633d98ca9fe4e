-- The file of a name, and what is known of the desk on its way through a command that picks it.
use Rattle.std.specs.Prelude.{◌≡◌, ◌⊎◌, ℕ, List, [], ◌∷◌, ◌++◌, Option, Some, None, unwrap_or, ◌≢◌, ◌≤◌, true, IsTrue, is_some}
use Rattle.tf_desk.specs.Crash.{Mark, at_pick, at_sync, Pairs}
use Rattle.tf_desk.specs.State.{DeskState, MayLeave}

-- ---- the file of a name, and since when a crash counts for a call that picks it

-- the bytes of the file of a name; a name without a file counts as an empty file
abbrev pub file_of : DeskState → List ℕ → List ℕ
file_of state name = unwrap_or (state.content.files name) []

-- the moments of the first pick and of the first sync that answered Ok
abbrev pub first_pick : List Mark → Option ℕ
first_pick [] = None
first_pick (at_pick name moment ∷ marks) = Some moment
first_pick (at_sync moment ∷ marks) = first_pick marks

abbrev pub first_sync : List Mark → Option ℕ
first_sync [] = None
first_sync (at_pick name moment ∷ marks) = first_sync marks
first_sync (at_sync moment ∷ marks) = Some moment

-- a crash could leave nothing of the file but what it reads as
abbrev pub IsFirm : List ℕ → DeskState → Type 0
IsFirm name state = (image : List ℕ) → state.left name image → image ≡ file_of state name

-- the call's start: the moment of its first pick, where a crash could leave nothing of the file but what it reads as;
-- else that of its first sync
pub record IsStart (name : List ℕ) (entry now : DeskState) (moment : ℕ) : Type 0 where
  pub more : List Mark
  pub added : now.content.marks ≡ entry.content.marks ++ more
  pub first : ((first_pick more ≡ Some moment) × IsFirm name entry) ⊎ (first_sync more ≡ Some moment)

-- ---- what is known of the desk on its way through a command that picks a file

-- since the call's start a crash left only what `may` says, and now leaves only what `held` says; the other files are
-- as they were
pub record Path (name : List ℕ) (entry now : DeskState) (may : Pairs) (held : List ℕ → Type 0) : Type 0 where
  pub others : (other : List ℕ) → other ≢ name → now.content.files other ≡ entry.content.files other
  pub within : (moment : ℕ) → IsStart name entry now moment → moment ≤ now.content.clock
  pub crash : (moment : ℕ) → IsStart name entry now moment → (image text : List ℕ) → now.crashes moment image text
      → may image text
  pub still : (moment : ℕ) → IsStart name entry now moment → (image : List ℕ) → MayLeave now image → held image

-- the file of that name is picked and synced
pub record IsSet (name : List ℕ) (entry now : DeskState) : Type 0 where
  pub picked : now.content.picked ≡ Some name
  pub more : List Mark
  pub added : now.content.marks ≡ entry.content.marks ++ more
  pub has_pick : is_some (first_pick more) ≡ true
  pub has_sync : is_some (first_sync more) ≡ true

-- a crash left the file as it was at entry, and nothing more was shown
abbrev pub IsAsBefore : List ℕ → DeskState → Pairs
IsAsBefore name entry image text = (image ≡ file_of entry name) × (entry.shown ≡ Some text)

-- the image is the file as it was at entry
abbrev pub IsSame : List ℕ → DeskState → List ℕ → Type 0
IsSame name entry image = image ≡ file_of entry name

-- the file is as it was, and nothing was said
pub record Untouched (name : List ℕ) (entry now : DeskState) : Type 0 where
  pub told : now.tells ≡ entry.tells
  pub quiet : now.shown ≡ entry.shown
  pub file : IsTrue entry.tells → file_of now name ≡ file_of entry name
  pub path : IsTrue entry.tells → Path name entry now (IsAsBefore name entry) (IsSame name entry)
  pub disk : entry.disk_faults ≤ now.disk_faults
  pub out : now.out_faults ≡ entry.out_faults

-- the same, and the file is picked and synced
pub record Open (name : List ℕ) (entry now : DeskState) : Type 0 where
  pub untouched : Untouched name entry now
  pub set : IsTrue entry.tells → IsSet name entry now
