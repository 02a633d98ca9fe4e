use Rattle.std.proofs.Common.{◌≡◌, ◌++◌, length}
use Rattle.std.specs.List.{flat_map, AllByRecursion}
use Rattle.tf_values.specs.Scalars.{scalar_bytes, IsElement}
use Rattle.tf_values.proofs.decoding.scalars_at.Given as goal

abbrev pub invariant-loop : goal.invariant-loop
invariant-loop l = record {
  elements : AllByRecursion IsElement l.items.items;
  counted : length l.items.items ≡ l.counter;
  read : l.bytes ≡ flat_map scalar_bytes l.items.items ++ l.rest;
}
