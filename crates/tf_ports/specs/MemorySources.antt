-- What sources in memory hold.
use Rattle.std.specs.Prelude.{ℕ, List, [], ◌∷◌, Option, Some, None, if◌then◌else◌, ◌==◌}
use Rattle.std.specs.Cmp.Lexicographic.{pointwise}
use Rattle.tf_ports.specs.declared.memory.MemorySource.{MemorySource}

-- a name and its bytes
pub record Source : Type 0 where
  pub name : List ℕ
  pub bytes : List ℕ

-- a source of the program, without where it lies in memory
abbrev pub seen : MemorySource → Source
seen source = record { name = source.name; bytes = source.bytes.items }

-- the sources in order, and how many faults there were
pub record HeldBySources : Type 0 where
  pub sources : List Source
  pub faults : ℕ

-- the bytes of the first source of that name
abbrev pub source_at : List Source → List ℕ → Option (List ℕ)
source_at [] name = None
source_at (source ∷ sources) name =
    if pointwise ◌==◌ source.name name then Some source.bytes else source_at sources name
