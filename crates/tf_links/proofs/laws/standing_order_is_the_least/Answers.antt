-- What the contract says is the lemma.
use Rattle.tf_links.proofs.laws.standing_order_is_the_least.Goals as goal
use Rattle.tf_links.proofs.StandingLawLemmas.{stands_next}

pub returns-clause-next : goal.returns-clause-next
returns-clause-next c = stands_next
