-- One lemma for each rule of a step.
use Rattle.tf_bound.proofs.SessionLemmas.{falls, forced_less, chosen_less, ended_less}
use Rattle.tf_bound.proofs.laws.entries_make_less_owed.Goals as goal

pub returns-clause-step : goal.returns-clause-step
returns-clause-step c = falls

pub returns-clause-forced : goal.returns-clause-forced
returns-clause-forced c = forced_less

pub returns-clause-chosen : goal.returns-clause-chosen
returns-clause-chosen c = chosen_less

pub returns-clause-ended : goal.returns-clause-ended
returns-clause-ended c = ended_less
