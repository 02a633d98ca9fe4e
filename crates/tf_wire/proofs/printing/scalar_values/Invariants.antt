use Rattle.std.proofs.Common.{◌≡◌, map, take}
use Rattle.serde_json.specs.View.{view}
use Rattle.tf_wire.specs.Grammar.{scalar_data}
use Rattle.tf_wire.proofs.printing.scalar_values.Given as goal

abbrev pub invariant-loop-scalar : goal.invariant-loop-scalar
invariant-loop-scalar l = map view l.made.items ≡ map scalar_data (take l.scalar-index l.scalars)
