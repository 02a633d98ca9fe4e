-- How often an atom was tried: it holds at each moment of a run.
use Rattle.std.specs.Prelude.{◌≡◌, ℕ, ◌<◌, ◌≤◌, true}
use Rattle.tf_model.specs.Plan.{Outline}
use Rattle.tf_model.specs.History.{Snapshot, is_pending, is_running}
use Rattle.tf_bound.specs.Costs.{tries_at}

-- attempts begin anew with PENDING, and are never more than the atom has tries: fewer while it is RUNNING
pub record HasTries (plan : Outline) (s : Snapshot) : Type 0 where
  pub pending : (a : ℕ) → is_pending (s.state a) ≡ true → s.attempts a ≡ 0
  pub running : (a : ℕ) → is_running (s.state a) ≡ true → s.attempts a < tries_at plan a
  pub most : (a : ℕ) → s.attempts a ≤ tries_at plan a

-- how often an atom may try its flow is a number of 16 bits
abbrev pub HasFewTries : Outline → Type 0
HasFewTries plan = (a : ℕ) → tries_at plan a < 65536
