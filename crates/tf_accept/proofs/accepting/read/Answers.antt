use Rattle.std.proofs.Common.{sym, ◌∙◌}
use Rattle.tf_accept.specs.Accepted.{misspelled}
use Rattle.tf_accept.proofs.accepting.read.Goals as goal

pub returns-else-is_memory-clause-refused : goal.returns-else-is_memory-clause-refused
returns-else-is_memory-clause-refused c target = misspelled c.in-Err.fault (sym c.is_memory.ensures ∙ c.if-is_memory.false) c.in-Err.ensures.refused
