use Rattle.std.proofs.Common.{◌≡◌, take, length}
use Rattle.std.specs.List.{flat_map}
use Rattle.tf_values.specs.Scalars.{scalar_bytes}
use Rattle.tf_flow.specs.Limits.{capped}
use Rattle.tf_flow.proofs.byte_length.list_len.Given as goal

abbrev pub invariant-loop-scalar : goal.invariant-loop-scalar
invariant-loop-scalar l = l.len ≡ capped (length (flat_map scalar_bytes (take l.scalar-index l.scalars)))
