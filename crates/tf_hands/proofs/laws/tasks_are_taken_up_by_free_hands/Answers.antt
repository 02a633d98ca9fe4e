-- How a task is taken up.
use Rattle.tf_hands.proofs.OtherLemmas.{start_pending, restart_interrupted, restart_in_no_hand, taken_by_free, taken_has_order}
use Rattle.tf_hands.proofs.laws.tasks_are_taken_up_by_free_hands.Goals as goal

pub returns-clause-started : goal.returns-clause-started
returns-clause-started c = start_pending

pub returns-clause-restarted : goal.returns-clause-restarted
returns-clause-restarted c = restart_interrupted

pub returns-clause-in_no_hand : goal.returns-clause-in_no_hand
returns-clause-in_no_hand c = restart_in_no_hand

pub returns-clause-free : goal.returns-clause-free
returns-clause-free c = taken_by_free

pub returns-clause-asked : goal.returns-clause-asked
returns-clause-asked c = taken_has_order
