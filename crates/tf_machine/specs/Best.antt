-- The best candidate so far.
use Rattle.std.specs.Prelude.{ℕ, zero, suc, Bool, true, false, ◌&&◌, Option, Some, None, int_lt, if◌then◌else◌}
use Rattle.tf_states.specs.declared.record.Payload.{Payload}
use Rattle.tf_states.specs.declared.record.Payload.TheVariants as payload
use Rattle.tf_states.specs.declared.record.What.{What}
use Rattle.tf_states.specs.declared.record.What.TheVariants as what
use Rattle.tf_model.specs.Plan.{Outline}
use Rattle.tf_model.specs.History.{Snapshot, is_at_work}
use Rattle.tf_model.specs.Forced.{priority, is_candidate}

-- a has a greater priority than the best one so far, if there is one
abbrev pub outranked : Outline → Option ℕ → ℕ → Bool
outranked plan None a = true
outranked plan (Some best) a = int_lt (priority plan best) (priority plan a)

-- the best of the candidates below n, the first of them where several have the greatest priority
abbrev pub best_below : Outline → Snapshot → ℕ → Option ℕ
best_below plan s zero = None
best_below plan s (suc n) =
    if outranked plan (best_below plan s n) n && is_candidate plan s n then Some n else best_below plan s n

-- nothing is carried
abbrev pub is_empty : Payload → Bool
is_empty payload.Empty = true
is_empty held = false

-- the entry may take up a task: it begins its execution or its reversion, or restarts it
abbrev pub is_start : What → Bool
is_start (what.Atom a state held) = is_at_work state && is_empty held
is_start (what.Restart again) = true
is_start (what.Flow state) = false
is_start (what.Resolve named resolved) = false
