use Rattle.std.proofs.Common.{◌≡◌, take, List, ℕ}
use Rattle.std.specs.List.{list_any}
use Rattle.indexmap.specs.IndexSet.{contains}
use Rattle.tf_flow.specs.Tree.{same_name}
use Rattle.tf_flow.proofs.repeats.set_of.Given as goal

abbrev pub invariant-loop-name : goal.invariant-loop-name
invariant-loop-name l = (name : List ℕ) → contains same_name l.set name ≡ list_any (same_name name) (take l.name-index l.names)
