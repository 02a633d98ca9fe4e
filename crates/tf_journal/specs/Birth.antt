-- The steps in which a journal is made in an unborn file.
use Rattle.std.specs.Prelude.{◌≡◌, ◌≢◌, ℕ, ◌≤◌, true, List, [], ◌∷◌, ◌++◌, length, drop}
use Rattle.tf_journal.specs.declared.title.Title.{Title}
use Rattle.tf_journal.specs.declared.title.Title.TheVariants.{Book, Jobs, Book2}
use Rattle.tf_journal.specs.Format.{OPEN, title_of, has_title, is_unborn, journal_bytes}

-- the file's gate is there now; a file of two bytes or more is as before, and a shorter one is a closed gate alone
pub record IsClosed (title : Title) (old new : List ℕ) : Type 0 where
  pub unborn : is_unborn title new ≡ true
  pub there : 1 ≤ length new
  pub long : 2 ≤ length old → new ≡ old
  pub short : length old ≤ 1 → new ≡ 0 ∷ []

-- the gate of an unborn file once it was closed: a file of two bytes or more has one that isn't open
abbrev pub first_gate : List ℕ → ℕ
first_gate [] = 0
first_gate (gate ∷ []) = 0
first_gate (gate ∷ next ∷ rest) = gate

-- a draft without a body, in an unborn file: the file's gate, the title and a closed gate; what stood behind byte 18
-- stays
abbrev pub draft_bytes : Title → List ℕ → List ℕ
draft_bytes title old = first_gate old ∷ (title_of title ++ 0 ∷ drop 18 old)

-- a journal without a body, in an unborn file: in one of a book of several flows what stood behind byte 18 stays, and
-- others have no more bytes
abbrev pub born_bytes : Title → List ℕ → List ℕ
born_bytes Book old = journal_bytes Book []
born_bytes Jobs old = journal_bytes Jobs []
born_bytes Book2 old = journal_bytes Book2 [] ++ drop 18 old

-- the title and a closed gate stand behind a gate that isn't open, so that the file is unborn whatever that gate is;
-- what stood behind byte 18 stays
pub record IsTitled (title : Title) (old bytes : List ℕ) : Type 0 where
  pub whole : bytes ≡ draft_bytes title old
  pub shut : first_gate old ≢ OPEN
  pub titled : has_title title (drop 1 bytes) ≡ true
