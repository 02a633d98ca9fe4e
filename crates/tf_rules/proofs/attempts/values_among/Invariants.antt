use Rattle.std.proofs.Common.{◌≡◌, drop}
use Rattle.std.specs.Prelude.{codes}
use Rattle.tf_model.specs.Retries.{argument_named}
use Rattle.tf_rules.proofs.attempts.values_among.Given as goal

abbrev pub invariant-loop-pair : goal.invariant-loop-pair
invariant-loop-pair l = argument_named l.pairs (codes "values") ≡ argument_named (drop l.pair-index l.pairs) (codes "values")
