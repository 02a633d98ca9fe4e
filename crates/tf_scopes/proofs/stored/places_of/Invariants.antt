use Rattle.std.proofs.Common.{◌≡◌, drop, List, ℕ}
use Rattle.std.specs.List.{position_from}
use Rattle.indexmap.specs.IndexMap.{get}
use Rattle.tf_flow.specs.Tree.{same_name}
use Rattle.tf_scopes.specs.Sources.{binds_symbol}
use Rattle.tf_scopes.proofs.stored.places_of.Given as goal

abbrev pub invariant-loop-i : goal.invariant-loop-i
invariant-loop-i l = (symbol : List ℕ) → get same_name l.places symbol ≡ position_from (binds_symbol symbol) l.i (drop l.i l.binds)
