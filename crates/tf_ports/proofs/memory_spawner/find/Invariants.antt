use Rattle.std.proofs.Common.{◌≡◌, drop}
use Rattle.tf_ports.specs.MemorySpawner.{end_at}
use Rattle.tf_ports.proofs.memory_spawner.find.Given as goal

abbrev pub invariant-loop-program : goal.invariant-loop-program
invariant-loop-program l = end_at (drop l.program-index l.programs) l.name ≡ end_at l.programs l.name
