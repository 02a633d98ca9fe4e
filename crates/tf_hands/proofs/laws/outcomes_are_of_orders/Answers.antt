-- What a performer's outcomes may be.
use Rattle.tf_hands.proofs.EndLemmas.{end_given}
use Rattle.tf_hands.proofs.GivenLemmas.{no_end_given}
use Rattle.tf_hands.proofs.laws.outcomes_are_of_orders.Goals as goal

pub returns-clause-none : goal.returns-clause-none
returns-clause-none g c = no_end_given _

pub returns-clause-ended : goal.returns-clause-ended
returns-clause-ended g c plan past hand a order outcome = end_given _ plan past hand a order outcome g.met.P.Performer.reverts_to_nothing
