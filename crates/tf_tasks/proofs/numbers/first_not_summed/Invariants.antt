use Rattle.std.proofs.Common.{◌≡◌, drop}
use Rattle.tf_flow.specs.Tree.{first_some}
use Rattle.tf_actions.specs.Built.{not_summed}
use Rattle.tf_tasks.proofs.numbers.first_not_summed.Given as goal

abbrev pub invariant-loop-pair : goal.invariant-loop-pair
invariant-loop-pair l = first_some not_summed (drop l.pair-index l.pairs) ≡ first_some not_summed l.pairs
