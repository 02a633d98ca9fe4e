use Rattle.std.proofs.Common.{◌≡◌, ℕ, List, reverse, take}
use Rattle.std.specs.List.{sum_by}
use Rattle.tf_desk.specs.MemoryDesk.{acts_of, written_count}
use Rattle.tf_desk.specs.Crashed.{IsTraced}
use Rattle.tf_desk.proofs.crashing.trace.Given as goal

abbrev pub invariant-loop-entry : goal.invariant-loop-entry
invariant-loop-entry l = record {
  wrote : l.wrote ≡ sum_by written_count (take l.entry-index l.log);
  traced : (shown : List ℕ) → IsTraced (acts_of (reverse (take l.entry-index l.log)) (take l.wrote l.tape) shown) l.name l.traced;
}
