-- A plan in which no atom is bad.
use Rattle.tf_bound.proofs.AcceptedLemmas.{accepted_tried}
use Rattle.tf_bound.proofs.laws.plans_have_attempts.Goals as goal

pub returns : goal.returns
returns c = accepted_tried
