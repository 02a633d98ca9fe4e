use Rattle.std.proofs.Common.{◌≡◌, map, drop}
use Rattle.tf_ports.specs.MemorySources.{seen, source_at}
use Rattle.tf_ports.proofs.memory.find.Given as goal

abbrev pub invariant-loop-source : goal.invariant-loop-source
invariant-loop-source l = source_at (map seen (drop l.source-index l.sources)) l.name ≡ source_at (map seen l.sources) l.name
