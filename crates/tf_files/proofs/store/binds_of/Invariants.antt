use Rattle.std.proofs.Common.{◌≡◌, ◌++◌, map}
use Rattle.tf_files.specs.Pairs.{bind_of}
use Rattle.tf_files.proofs.store.binds_of.Given as goal

-- the symbols made, followed by those of what is left, are those of all
abbrev pub invariant-loop-symbol : goal.invariant-loop-symbol
invariant-loop-symbol l = l.binds.items ++ map bind_of l.symbol-iterator ≡ map bind_of l.initial.symbol-iterator
