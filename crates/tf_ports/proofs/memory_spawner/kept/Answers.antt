use Rattle.tf_ports.specs.MemorySpawner.{kept_of}
use Rattle.tf_ports.proofs.memory_spawner.kept.Goals as goal

pub returns-clause-kept : goal.returns-clause-kept
unfolding kept_of
returns-clause-kept c = c.prefix.ensures.prefix

pub returns-clause-short : goal.returns-clause-short
returns-clause-short c = c.prefix.ensures.short
