-- A free hand alone is never stuck.
use Rattle.tf_hands.proofs.RestLemmas.{alone_still, alone_ends, still_alone}
use Rattle.tf_hands.proofs.laws.lone_hands_are_never_stuck.Goals as goal

pub returns-clause-still : goal.returns-clause-still
returns-clause-still c = alone_still

pub returns-clause-end : goal.returns-clause-end
returns-clause-end c = alone_ends

pub returns-clause-alone : goal.returns-clause-alone
returns-clause-alone c = still_alone
