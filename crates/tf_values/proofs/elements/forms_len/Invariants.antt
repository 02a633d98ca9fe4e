use Rattle.std.proofs.Common.{◌≡◌, ◌*◌, ◌≤◌, length, take}
use Rattle.std.specs.List.{flat_map, AllByRecursion}
use Rattle.tf_values.specs.Scalars.{scalar_bytes, IsElement}
use Rattle.tf_values.proofs.elements.forms_len.Given as goal

abbrev pub invariant-loop-scalar : goal.invariant-loop-scalar
invariant-loop-scalar l = record {
  bound : l.len ≤ 65541 * l.scalar-index;
  counted : l.len ≡ length (flat_map scalar_bytes (take l.scalar-index l.scalars));
  elements : AllByRecursion IsElement (take l.scalar-index l.scalars);
}
