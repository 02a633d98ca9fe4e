-- The end of a task frees its hand.
use Rattle.tf_hands.proofs.EndLemmas.{end_frees, end_ends}
use Rattle.tf_hands.proofs.laws.ends_free_hands.Goals as goal

pub returns-clause-free : goal.returns-clause-free
returns-clause-free c = end_frees

pub returns-clause-ends : goal.returns-clause-ends
returns-clause-ends c = end_ends
