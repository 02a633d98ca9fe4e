-- What takes no task up leaves hands alone.
use Rattle.tf_hands.proofs.OtherLemmas.{idle_free, flow_order}
use Rattle.tf_hands.proofs.laws.idle_entries_leave_hands_alone.Goals as goal

pub returns-clause-free : goal.returns-clause-free
returns-clause-free c = idle_free

pub returns-clause-order : goal.returns-clause-order
returns-clause-order c = flow_order
