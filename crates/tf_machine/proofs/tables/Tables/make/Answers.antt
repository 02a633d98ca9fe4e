use Rattle.tf_machine.proofs.MachineLemmas.{first_pending}
use Rattle.tf_machine.proofs.tables.Tables.make.Goals as goal

pub returns-clause-counted : goal.returns-clause-counted
returns-clause-counted c = c.in_ok-counters.ensures _ (λ a. first_pending c.loop-atom.views.items c.loop-atom._atom a c.loop-atom.invariant.views)
