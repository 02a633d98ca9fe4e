use Rattle.tf_links.specs.Bits.{words_for}
use Rattle.tf_order.specs.Direct.{is_own}
use Rattle.tf_order.specs.Tables.{atoms_found}
use Rattle.tf_order.proofs.DirectLemmas.{OwnBefore}
use Rattle.tf_order.proofs.direct.add_own.Given as goal

abbrev pub invariant-loop-task : goal.invariant-loop-task
invariant-loop-task l = OwnBefore (is_own l.outline l.flow) (words_for (atoms_found l.outline)) l.tasks l.task-index l.fn.found l.found
