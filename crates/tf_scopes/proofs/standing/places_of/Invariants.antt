use Rattle.std.proofs.Common.{◌≡◌, drop, ℕ, nat_eq}
use Rattle.std.specs.List.{position_from}
use Rattle.indexmap.specs.IndexMap.{get}
use Rattle.tf_scopes.specs.Standing.{is_one}
use Rattle.tf_scopes.proofs.standing.places_of.Given as goal

abbrev pub invariant-loop-i : goal.invariant-loop-i
invariant-loop-i l = (n : ℕ) → get nat_eq l.places n ≡ position_from (is_one n) l.i (drop l.i l.order)
