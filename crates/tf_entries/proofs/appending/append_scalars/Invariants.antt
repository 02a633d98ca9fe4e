use Rattle.std.proofs.Common.{◌≡◌, ◌≤◌, ◌++◌, take, vec_capacity}
use Rattle.std.specs.List.{flat_map}
use Rattle.tf_values.specs.Scalars.{scalar_bytes}
use Rattle.tf_entries.proofs.appending.append_scalars.Given as goal

abbrev pub invariant-loop-scalar : goal.invariant-loop-scalar
invariant-loop-scalar l = record {
  appended : l.out.items ≡ l.initial.out.items ++ flat_map scalar_bytes (take l.scalar-index l.scalars);
  room : vec_capacity l.initial.out ≤ vec_capacity l.out;
}
