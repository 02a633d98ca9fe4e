-- How far a reading of a journal's records has come.
use Rattle.std.specs.Prelude.{◌≡◌, ℕ, ◌+◌, ◌≤◌, ◌<◌, List, [], ◌∷◌, ◌++◌, length, take, drop}
use Rattle.std.specs.List.{flat_map}
use Rattle.tf_journal.specs.declared.scanning.Scanned.{Scanned}
use Rattle.tf_journal.specs.declared.scanning.Scanned.TheVariants as scanned
use Rattle.tf_journal.specs.declared.title.Title.{Title}
use Rattle.tf_journal.specs.declared.window.Window.{Window}
use Rattle.tf_journal.specs.declared.scanning.Look.{Look}
use Rattle.tf_journal.specs.declared.scanning.Look.TheVariants.{Closed, Body, Bad}
use Rattle.tf_journal.specs.Format.{SIZE_LIMIT, record_of, closed, body, bad, record_at, Recovered, with_body, records_from, IsBody, AreBodies}

-- the record at that place has this body; the file has the gate behind it
pub record HasRecord (title : Title) (bytes : List ℕ) (place : ℕ) (record_body : List ℕ) : Type 0 where
  pub found : record_at title bytes place ≡ body record_body (place + 5 + length record_body)
  pub prefix : take (place + 5 + length record_body) bytes ≡ take place bytes ++ record_of record_body
  pub is_body : IsBody title record_body
  pub within : place + 6 + length record_body ≤ length bytes
  pub limit : place + 6 + length record_body ≤ SIZE_LIMIT

-- what a look at a place tells of the record there
abbrev pub Shows : Title → Look → List ℕ → ℕ → Type 0
Shows title Closed bytes place = record_at title bytes place ≡ closed
Shows title (Body n) bytes place =
    (record_body : List ℕ) × (length record_body ≡ n) × HasRecord title bytes place record_body
Shows title (Bad offset byte) bytes place = record_at title bytes place ≡ bad offset byte

-- a record that a look shows ends before the greatest size
abbrev pub IsNear : Look → ℕ → Type 0
IsNear Closed place = Unit {0}
IsNear (Body n) place = place + 6 + n ≤ SIZE_LIMIT
IsNear (Bad offset byte) place = Unit {0}

-- these bodies at the front of what follows
abbrev pub with_bodies : List (List ℕ) → Recovered → Recovered
with_bodies [] others = others
with_bodies (first ∷ rest) others = with_body first (with_bodies rest others)

-- these bodies stand from place 17 up to that place, and the gate at that place is there
pub record Reaches (title : Title) (bytes : List ℕ) (held : List (List ℕ)) (place : ℕ) : Type 0 where
  pub prefix : take place bytes ≡ take 17 bytes ++ flat_map record_of held
  pub start : 17 ≤ place
  pub within : place < length bytes
  pub limit : place < SIZE_LIMIT
  pub fit : AreBodies title held
  pub left : (most : ℕ) × (most + length held ≡ length bytes)
      × (records_from title (length bytes) bytes 17 ≡ with_bodies held (records_from title most bytes place))

-- so many bodies stand up to a gate that isn't open, which that place is behind
pub record EndsRecords (title : Title) (bytes : List ℕ) (count end : ℕ) : Type 0 where
  pub held : List (List ℕ)
  pub many : count ≡ length held
  pub place : ℕ
  pub reaches : Reaches title bytes held place
  pub ends : record_at title bytes place ≡ closed
  pub behind : end ≡ place + 1

-- so many bodies end at that place
abbrev pub EndsScanned : Title → Scanned → List ℕ → Type 0
EndsScanned title scanned.Unborn bytes = ⊥
EndsScanned title (scanned.Records count end) bytes = EndsRecords title bytes count end

-- a window's bytes are the file's from its start on, and its size is the file's
pub record IsWindow (file : List ℕ) (window : Window) : Type 0 where
  pub part : take window.count window.bytes ≡ take window.count (drop window.start file)
  pub whole : length file ≡ window.size
