use Rattle.std.proofs.Common.{◌≡◌, ◌+◌, arith, length, refl}
use Rattle.std.proofs.lemmas.Grind.{common_steps}
use Rattle.std.specs.List.{flat_map}
use Rattle.tf_values.specs.Scalars.{scalar_bytes}
use Rattle.tf_flow.specs.Limits.{capped}
use Rattle.tf_flow.proofs.byte_length.list_len.Goals as goal

pub returns : goal.returns
returns c =
    let forms : c.loop-scalar.len ≡ capped (length (flat_map scalar_bytes c.args.scalars.now)) = grind (arith, common_steps) in
    let whole : c.plus.result ≡ capped (3 + length (flat_map scalar_bytes c.args.scalars.now)) = c.plus.ensures 3 (length (flat_map scalar_bytes c.args.scalars.now)) refl forms in
    omega (arith, whole)
