use Rattle.std.proofs.Common.{◌≡◌, map, take}
use Rattle.tf_files.specs.document.Tasks.{required_argument}
use Rattle.tf_files.proofs.document.arguments.arguments_bound.Given as goal

abbrev pub invariant-loop-name : goal.invariant-loop-name
invariant-loop-name l = l.args.items ≡ map (required_argument l.rebound) (take l.name-index l.required)
