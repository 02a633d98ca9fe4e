use Rattle.std.proofs.Common.{◌≡◌, ◌-◌}
use Rattle.tf_entries.specs.Reading.{read_many}
use Rattle.tf_entries.proofs.ReadingLemmas.{after}
use Rattle.tf_entries.proofs.reader.Reader.items.Given as goal

-- the items that were read, followed by those that are left, are all of them
abbrev pub invariant-loop : goal.invariant-loop
invariant-loop g l = after l.items.items (read_many g.T.Item.read (l.count - l.counter) l.self) ≡ read_many g.T.Item.read l.count l.initial.self
