-- What a spawner in memory answers.
use Rattle.std.specs.Prelude.{◌≡◌, ℕ, List, [], ◌∷◌, Option, Some, None, take, if◌then◌else◌, ◌==◌}
use Rattle.std.specs.Cmp.Lexicographic.{pointwise}
use Rattle.tf_ports.specs.declared.memory_spawner.MemoryProgram.{MemoryProgram}
use Rattle.tf_ports.specs.declared.programs.Done.{Done}
use Rattle.tf_ports.specs.declared.programs.ProgramRun.{ProgramRun}

-- the programs in order, those that were run, the same with how each ended, and how many faults there were
pub record HeldBySpawner : Type 0 where
  pub programs : List MemoryProgram
  pub ran : List ProgramRun
  pub ended : List (ProgramRun × Done)
  pub faults : ℕ

-- at most 65,537 bytes of an output
unfoldable pub kept_of : List ℕ → List ℕ
kept_of bytes = take 65537 bytes

-- how such a program ends: with its status, and what is kept of its output
abbrev pub end_of : MemoryProgram → Done
end_of program = record { status = program.ends.status; out = kept_of program.ends.out }

-- how the first program of that name ends
abbrev pub end_at : List MemoryProgram → List ℕ → Option Done
end_at [] name = None
end_at (program ∷ programs) name =
    if pointwise ◌==◌ program.name name then Some (end_of program) else end_at programs name

-- the program of that name may end so, whatever its arguments are
abbrev pub EndsAs : HeldBySpawner → List ℕ → List (List ℕ) → Done → Type 0
EndsAs held name words done = end_at held.programs name ≡ Some done
