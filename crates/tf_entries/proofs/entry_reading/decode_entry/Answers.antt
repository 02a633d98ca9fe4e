use Rattle.tf_entries.proofs.EntryLemmas.{read_as_entry, no_entry}
use Rattle.tf_entries.proofs.entry_reading.decode_entry.Goals as goal

pub returns-clause-ok : goal.returns-clause-ok
returns-clause-ok c = rw (← c.atoms.ensures.count, ← c.flows.ensures.count) (read_as_entry c.atoms.result c.flows.result c.args.bytes.now c.whole_entry.result c.whole_entry.ensures.ok)

pub returns-clause-refused : goal.returns-clause-refused
returns-clause-refused c = rw (← c.atoms.ensures.count, ← c.flows.ensures.count) (no_entry c.atoms.result c.flows.result c.args.bytes.now c.whole_entry.result c.whole_entry.ensures.refused)
