-- How many tests may stand in one another.
use Rattle.std.proofs.Common.{◌≡◌, ◌≢◌, ℕ, suc, ◌-◌, List, arith, ap}
use Rattle.tf_flow.proofs.ConditionLemmas.{condition_of-is, condition_of-below, condition_of-above, condition_of-not, condition_of-all, condition_of-any}
use Rattle.tf_files.specs.FlowFile.{test_table}
use Rattle.toml.specs.Data.{Members}

-- one less within a test
pub within : (left : ℕ) (path : List ℕ) (table : Members) → left ≢ 0 → test_table (suc (left - 1)) path table ≡ test_table left path table
within left path table some = let more : suc (left - 1) ≡ left = omega (arith, some) in ap (λ n. test_table n path table) more

-- the tree of each kind of test
pub ruleset tests_as_trees = (condition_of-is, condition_of-below, condition_of-above, condition_of-not, condition_of-all, condition_of-any)
