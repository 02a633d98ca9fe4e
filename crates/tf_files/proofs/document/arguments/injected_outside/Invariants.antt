use Rattle.std.proofs.Common.{◌≡◌, not, map, filter, take}
use Rattle.indexmap.specs.IndexSet.{contains}
use Rattle.tf_flow.specs.Tree.{same_name}
use Rattle.tf_files.specs.document.Tasks.{injected_argument}
use Rattle.tf_files.proofs.document.arguments.injected_outside.Given as goal

abbrev pub invariant-loop-bind : goal.invariant-loop-bind
invariant-loop-bind l = l.made.items ≡ map injected_argument (filter (λ bind. not (contains same_name l.spoken bind.symbol)) (take l.bind-index l.inject))
