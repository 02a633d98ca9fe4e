use Rattle.std.proofs.Common.{◌≡◌, drop}
use Rattle.tf_wire.specs.Grammar.{names_differ}
use Rattle.tf_wire.proofs.allowing.names_differ.Given as goal

abbrev pub invariant-loop-number : goal.invariant-loop-number
invariant-loop-number l = names_differ (drop l.number l.pairs) ≡ names_differ l.pairs
