use Rattle.std.proofs.Common.{◌≡◌, take}
use Rattle.std.specs.List.{sum_by}
use Rattle.tf_desk.specs.MemoryDesk.{said_count}
use Rattle.tf_desk.proofs.crashing.text_of.Given as goal

abbrev pub invariant-loop-entry : goal.invariant-loop-entry
invariant-loop-entry l = l.said ≡ sum_by said_count (take l.entry-index l.log)
