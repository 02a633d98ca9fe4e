use Rattle.std.proofs.Common.{◌≡◌, take, map}
use Rattle.tf_demo.specs.Demo.{argument}
use Rattle.tf_demo.proofs.tasks.arguments.Given as goal

-- the arguments so far are those of the names so far
abbrev pub invariant-loop-name : goal.invariant-loop-name
invariant-loop-name l = l.args.items ≡ map argument (take l.name-index l.required)
