use Rattle.std.proofs.Common.{◌≡◌, take}
use Rattle.tf_target.proofs.atoms.copy_binds.Given as goal

abbrev pub invariant-loop-bind : goal.invariant-loop-bind
invariant-loop-bind l = l.copies.items ≡ take l.bind-index l.bind-items
