-- Which bodies of a journal are refused, and which files. `refuses before body` says that no such body may come after
-- those before it.
use Rattle.std.specs.Prelude.{◌≡◌, ℕ, ◌+◌, List, ◌∷◌, ◌++◌, length, Option, slice_get}
use Rattle.tf_journal.specs.Format.{prefix_of, Recovered, old_format, bodies, not_a_book}
use Rattle.tf_journal.specs.declared.faults.LoadFault.{LoadFault}
use Rattle.tf_journal.specs.declared.faults.LoadFault.TheVariants.{Disk, Memory, NotABook, Old}
use Rattle.tf_journal.specs.declared.title.Title.{Title}

-- one of the bodies is refused after those before it; the offset and the byte are those of its first byte in the file
pub record HasRefusedBody (title : Title) (refuses : List (List ℕ) → List ℕ → Type 0) (held : List (List ℕ))
    (offset : ℕ) (byte : Option ℕ) : Type 0 where
  pub before : List (List ℕ)
  pub body : List ℕ
  pub after : List (List ℕ)
  pub splits : held ≡ before ++ body ∷ after
  pub cannot : refuses before body
  pub offset_is : offset ≡ length (prefix_of title before) + 5
  pub byte_is : byte ≡ slice_get body 0

-- a journal's bodies were refused for what they are; a fault of the disk and want of memory say nothing of them
abbrev pub RefusesBodies : Title → (List (List ℕ) → List ℕ → Type 0) → LoadFault → List (List ℕ) → Type 0
RefusesBodies title refuses Disk held = Unit {0}
RefusesBodies title refuses Memory held = Unit {0}
RefusesBodies title refuses (NotABook offset byte) held = HasRefusedBody title refuses held offset byte
RefusesBodies title refuses Old held = ⊥

-- the file is malformed: it is no journal of that title, or one of its bodies is refused
pub data IsMalformed (title : Title) (refuses : List (List ℕ) → List ℕ → Type 0) (file : Recovered) (offset : ℕ)
    (byte : Option ℕ) : Type 0 where
  no_journal : file ≡ not_a_book offset byte → IsMalformed title refuses file offset byte
  bad_body : (held : List (List ℕ)) → file ≡ bodies held → HasRefusedBody title refuses held offset byte
      → IsMalformed title refuses file offset byte

-- a file was refused for what it is; a fault of the disk and want of memory say nothing of it
abbrev pub RefusesMalformed : Title → (List (List ℕ) → List ℕ → Type 0) → LoadFault → Recovered → Type 0
RefusesMalformed title refuses Disk file = Unit {0}
RefusesMalformed title refuses Memory file = Unit {0}
RefusesMalformed title refuses (NotABook offset byte) file = IsMalformed title refuses file offset byte
RefusesMalformed title refuses Old file = file ≡ old_format
