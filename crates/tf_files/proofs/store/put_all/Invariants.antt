use Rattle.std.proofs.Common.{◌≡◌, map, drop}
use Rattle.indexmap.specs.IndexMap.{insert_all}
use Rattle.tf_flow.specs.Tree.{same_name}
use Rattle.tf_files.specs.Pairs.{pair_of}
use Rattle.tf_files.proofs.store.put_all.Given as goal

-- what is left, put into what is there, gives what is wanted
abbrev pub invariant-loop-bind : goal.invariant-loop-bind
invariant-loop-bind l = insert_all same_name l.values.entries (map pair_of (drop l.bind-index l.binds)) ≡ insert_all same_name l.initial.values.entries (map pair_of l.binds)
