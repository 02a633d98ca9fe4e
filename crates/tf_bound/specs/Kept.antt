-- What holds at every moment of a run, and makes what is owed fall.
use Rattle.std.specs.Prelude.{◌≡◌, ◌<◌, ◌≤◌, ℕ, true, false, Some}
use Rattle.tf_model.specs.Plan.{Outline, count, holds, is_retry, own_flow}
use Rattle.tf_model.specs.History.{Resolve, Snapshot, is_success, is_running, is_retrying, is_done, is_settled}
use Rattle.tf_model.specs.Forced.{is_of_its_flow, is_marked_again}
use Rattle.tf_bound.specs.Costs.{tries_at}
use Rattle.tf_bound.specs.Short.{ShowsShort, IsWithinLimits}

-- guarded: where a retry controller is neither SUCCESS nor IGNORE, every other atom that its flow holds is settled
abbrev pub IsGuarded : Outline → Snapshot → Type 0
IsGuarded plan s = (r a : ℕ) → is_retry plan r ≡ true → is_done (s.state r) ≡ false → is_of_its_flow plan r a ≡ true
    → is_settled (s.state a) ≡ true

-- attempts were made, and not all
pub record HasTriesLeft (plan : Outline) (s : Snapshot) (r : ℕ) : Type 0 where
  pub made : 1 ≤ s.attempts r
  pub fewer : s.attempts r < tries_at plan r

-- not all attempts were made, and none is at work
pub record MayTryAgain (plan : Outline) (s : Snapshot) (r : ℕ) : Type 0 where
  pub fewer : s.attempts r < tries_at plan r
  pub resting : is_running (s.state r) ≡ false

-- counted: what is SUCCESS made an attempt; what is RETRYING made some and has others left; and a retry controller that
-- a resolve of its own flow is to run again has attempts left and isn't at work
pub record IsCounted (plan : Outline) (s : Snapshot) : Type 0 where
  pub success : (r : ℕ) → is_success (s.state r) ≡ true → 1 ≤ s.attempts r
  pub retrying : (r : ℕ) → is_retrying (s.state r) ≡ true → HasTriesLeft plan s r
  pub again : (r : ℕ) → is_retry plan r ≡ true → is_marked_again (own_flow plan r) (s.mark r) ≡ true
      → MayTryAgain plan s r

-- a mark comes from a resolve of a flow that holds the atom, and what is in flight is an atom of the plan
pub record IsMarkedWithin (plan : Outline) (s : Snapshot) : Type 0 where
  pub marked : (a : ℕ) (m : Resolve) → s.mark a ≡ Some m → holds plan m.flow a ≡ true
  pub flying : (a hand : ℕ) → s.hand a ≡ Some hand → a < count plan

-- all three
pub record IsKept (plan : Outline) (s : Snapshot) : Type 0 where
  pub guarded : IsGuarded plan s
  pub counted : IsCounted plan s
  pub within : IsMarkedWithin plan s

-- what a run keeps at each moment, entry by entry, so that less and less is left: the plan is within its limits, the
-- payloads are short, the attempts are counted, and what is marked or in flight is within the plan
pub record IsBounded (plan : Outline) (s : Snapshot) : Type 0 where
  pub limits : IsWithinLimits plan
  pub short : ShowsShort s
  pub counted : IsCounted plan s
  pub within : IsMarkedWithin plan s
