-- How many flows may stand in one another.
use Rattle.std.proofs.Common.{◌≡◌, ◌≢◌, ℕ, suc, ◌-◌, List, arith, ap}
use Rattle.tf_files.specs.FlowFile.{nested_flow}
use Rattle.toml.specs.Data.{Members}

-- one less within a nested flow
pub below : (left : ℕ) (path : List ℕ) (table : Members) → left ≢ 0 → nested_flow (suc (left - 1)) path table ≡ nested_flow left path table
below left path table some = let more : suc (left - 1) ≡ left = omega (arith, some) in ap (λ n. nested_flow n path table) more
