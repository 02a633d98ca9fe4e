-- Each rule asks for what keeps it.
use Rattle.tf_bound.proofs.PastLemmas.{first_bounded, next_bounded, past_bounded, bounded_kept}
use Rattle.tf_bound.proofs.laws.moments_stay_bounded.Goals as goal

pub returns-clause-first : goal.returns-clause-first
returns-clause-first c = first_bounded

pub returns-clause-next : goal.returns-clause-next
returns-clause-next c = next_bounded

pub returns-clause-history : goal.returns-clause-history
returns-clause-history c = past_bounded

pub returns-clause-kept : goal.returns-clause-kept
returns-clause-kept c = bounded_kept
