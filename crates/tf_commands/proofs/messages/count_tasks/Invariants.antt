use Rattle.std.proofs.Common.{◌≡◌, ◌≤◌}
use Rattle.tf_model.specs.Plan.{outline_of}
use Rattle.tf_commands.specs.Messages.{tasks_below}
use Rattle.tf_commands.proofs.messages.count_tasks.Given as goal

abbrev pub invariant-loop-atom : goal.invariant-loop-atom
invariant-loop-atom l = (l.tasks ≡ tasks_below (outline_of l.plan) l.atom) × (l.tasks ≤ l.atom)
