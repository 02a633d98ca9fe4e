use Rattle.std.proofs.Common.{◌≡◌, drop}
use Rattle.std.specs.List.{list_any}
use Rattle.tf_wire.specs.Grammar.{has_name}
use Rattle.tf_wire.proofs.allowing.has_named.Given as goal

abbrev pub invariant-loop-pair : goal.invariant-loop-pair
invariant-loop-pair l = list_any (has_name l.name) (drop l.pair-index l.pairs) ≡ list_any (has_name l.name) l.pairs
