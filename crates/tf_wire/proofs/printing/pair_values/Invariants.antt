use Rattle.std.proofs.Common.{◌≡◌, map, take}
use Rattle.std.specs.List.{AllByRecursion}
use Rattle.serde_json.specs.View.{view}
use Rattle.tf_wire.specs.Limits.{IsArgument}
use Rattle.tf_wire.specs.Grammar.{pair_data}
use Rattle.tf_wire.proofs.printing.pair_values.Given as goal

abbrev pub invariant-loop-pair : goal.invariant-loop-pair
invariant-loop-pair l = record {
  made : map view l.made.items ≡ map pair_data (take l.pair-index l.pairs);
  good : AllByRecursion IsArgument (take l.pair-index l.pairs);
}
