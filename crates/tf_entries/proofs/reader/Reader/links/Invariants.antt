use Rattle.std.proofs.Common.{◌≡◌, ◌-◌, map}
use Rattle.tf_flow.specs.Outline.{connection_of}
use Rattle.tf_entries.specs.PlanReading.{read_link}
use Rattle.tf_entries.specs.Reading.{read_many}
use Rattle.tf_entries.proofs.ReadingLemmas.{after}
use Rattle.tf_entries.proofs.reader.Reader.links.Given as goal

-- the links that were read, followed by those that are left, are all of them
abbrev pub invariant-loop : goal.invariant-loop
invariant-loop l = after (map connection_of l.links.items) (read_many read_link (l.count - l.counter) l.self) ≡ read_many read_link l.count l.initial.self
