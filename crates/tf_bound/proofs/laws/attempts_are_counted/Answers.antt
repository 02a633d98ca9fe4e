-- Each step keeps them.
use Rattle.tf_bound.proofs.PastLemmas.{past_kept}
use Rattle.tf_bound.proofs.laws.attempts_are_counted.Goals as goal

pub returns-clause-counted : goal.returns-clause-counted
returns-clause-counted c = λ plan past compiles limits short legal. (past_kept plan past compiles limits short legal).counted

pub returns-clause-kept : goal.returns-clause-kept
returns-clause-kept c = past_kept
