use Rattle.std.proofs.Common.{◌≡◌, drop}
use Rattle.tf_model.specs.Scope.{part_given}
use Rattle.tf_scopes.proofs.found.part_given.Given as goal

abbrev pub invariant-loop-place : goal.invariant-loop-place
invariant-loop-place l = part_given l.names l.given l.symbol 0 ≡ part_given (drop l.place l.names) l.given l.symbol l.place
