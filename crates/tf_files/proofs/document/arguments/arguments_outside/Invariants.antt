use Rattle.std.proofs.Common.{◌≡◌, not, filter, take}
use Rattle.indexmap.specs.IndexSet.{contains}
use Rattle.tf_flow.specs.Tree.{same_name}
use Rattle.tf_files.proofs.document.arguments.arguments_outside.Given as goal

abbrev pub invariant-loop-arg : goal.invariant-loop-arg
invariant-loop-arg l = l.args.items ≡ filter (λ arg. not (contains same_name l.names arg.name)) (take l.arg-index l.rebound)
