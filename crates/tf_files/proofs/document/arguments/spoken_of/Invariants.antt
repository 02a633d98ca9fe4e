use Rattle.std.proofs.Common.{◌≡◌, take, List, ℕ}
use Rattle.std.specs.List.{list_any}
use Rattle.indexmap.specs.IndexSet.{contains}
use Rattle.tf_flow.specs.Tree.{same_name}
use Rattle.tf_files.specs.document.Tasks.{speaks_of}
use Rattle.tf_files.proofs.document.arguments.spoken_of.Given as goal

abbrev pub invariant-loop-arg : goal.invariant-loop-arg
invariant-loop-arg l = (symbol : List ℕ) → contains same_name l.set symbol ≡ list_any (speaks_of symbol) (take l.arg-index l.args)
