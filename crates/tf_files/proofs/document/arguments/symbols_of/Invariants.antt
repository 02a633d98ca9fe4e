use Rattle.std.proofs.Common.{◌≡◌, drop, List, ℕ}
use Rattle.std.specs.Prelude.{unwrap_or}
use Rattle.indexmap.specs.IndexMap.{get}
use Rattle.tf_flow.specs.Tree.{same_name}
use Rattle.tf_files.specs.document.Tasks.{symbol_for}
use Rattle.tf_files.proofs.document.arguments.symbols_of.Given as goal

abbrev pub invariant-loop-i : goal.invariant-loop-i
invariant-loop-i l = (name : List ℕ) → unwrap_or (get same_name l.symbols name) name ≡ symbol_for (drop l.i l.rebound) name
