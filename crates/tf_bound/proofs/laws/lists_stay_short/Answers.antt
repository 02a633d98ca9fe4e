-- By induction on the history.
use Rattle.tf_bound.proofs.ShortLemmas.{value_short, both_short, shows_short, later_short}
use Rattle.tf_bound.proofs.laws.lists_stay_short.Goals as goal

pub returns-clause-both : goal.returns-clause-both
returns-clause-both c = both_short

pub returns-clause-shown : goal.returns-clause-shown
returns-clause-shown c = shows_short

pub returns-clause-later : goal.returns-clause-later
returns-clause-later c = later_short

pub returns-clause-values : goal.returns-clause-values
returns-clause-values c = value_short
