use Rattle.std.proofs.Common.{ℕ, List, reverse, take}
use Rattle.std.specs.List.{sum_by}
use Rattle.tf_desk.specs.MemoryDesk.{acts_of, written_count}
use Rattle.tf_desk.specs.Crashed.{AreOthers}
use Rattle.tf_desk.proofs.crashing.others_of.Given as goal

abbrev pub invariant-loop-file : goal.invariant-loop-file
invariant-loop-file l = (shown : List ℕ) → AreOthers (take l.file-index l.files) (acts_of (reverse l.log) (take (sum_by written_count l.log) l.tape) shown) l.name l.others.items
