use Rattle.std.proofs.Common.{◌≡◌, ◌++◌, ◌∷◌, true, length}
use Rattle.std.specs.List.{flat_map, AllByRecursion}
use Rattle.tf_values.specs.Value.{further_text}
use Rattle.tf_values.specs.Scalars.{IsElement}
use Rattle.tf_values.specs.Word.{ends_here}
use Rattle.tf_values.proofs.parsing.scalars_of.Given as goal

abbrev pub invariant-loop-after : goal.invariant-loop-after
invariant-loop-after l = record {
  elements : AllByRecursion IsElement l.items.items;
  read : 44 ∷ l.bytes ≡ flat_map further_text l.items.items ++ l.rest;
  ends : ends_here l.rest ≡ true;
}

abbrev pub decreases-loop-after : goal.decreases-loop-after
decreases-loop-after l = length l.rest
