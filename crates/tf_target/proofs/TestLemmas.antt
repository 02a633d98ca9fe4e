-- The trees of tests, as rules.
use Rattle.tf_flow.proofs.ConditionLemmas.{condition_of-is, condition_of-below, condition_of-above, condition_of-not, condition_of-all, condition_of-any}

pub ruleset tests_as_trees = (condition_of-is, condition_of-below, condition_of-above, condition_of-not, condition_of-all, condition_of-any)
