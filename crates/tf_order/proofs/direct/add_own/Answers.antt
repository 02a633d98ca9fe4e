use Rattle.std.proofs.Common.{refl}
use Rattle.tf_order.specs.Tables.{atoms_found}
use Rattle.std.specs.Prelude.{slice_index_or}
use Rattle.tf_order.proofs.DirectLemmas.{own_within}
use Rattle.tf_order.proofs.direct.add_own.Goals as goal

pub add_if_own-requires-clause-atom : goal.add_if_own-requires-clause-atom
add_if_own-requires-clause-atom c = own_within c.args.tasks.now (atoms_found c.args.outline.now) c.loop-task.task-index (slice_index_or c.args.tasks.now c.loop-task.task-index 0) c.requires.within c.loop-task-test.true refl
