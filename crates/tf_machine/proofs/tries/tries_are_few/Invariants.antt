use Rattle.std.proofs.Common.{ℕ, ◌<◌}
use Rattle.tf_model.specs.Plan.{outline_of}
use Rattle.tf_bound.specs.Costs.{tries_at}
use Rattle.tf_machine.proofs.tries.tries_are_few.Given as goal

abbrev pub invariant-loop-atom : goal.invariant-loop-atom
invariant-loop-atom l = (a : ℕ) → a < l.atom → tries_at (outline_of l.plan) a < 65536
