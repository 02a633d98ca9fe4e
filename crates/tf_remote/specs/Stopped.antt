-- What an order comes to whose reply stopped.
use Rattle.std.specs.Prelude.{◌≡◌, ℕ}
use Rattle.tf_states.specs.declared.record.Failure.TheVariants as failure
use Rattle.tf_actions.specs.declared.outcomes.Outcome.{Outcome}
use Rattle.tf_actions.specs.declared.outcomes.Outcome.TheVariants as outcome
use Rattle.tf_remote.specs.declared.receiving.Stop.{Stop}
use Rattle.tf_remote.specs.declared.receiving.Stop.TheVariants as stop

-- a frame that is refused is told with how many bytes came before it
abbrev pub IsStopTaken : Stop → ℕ → Outcome → Type 0
IsStopTaken stop.Refused count came = came ≡ outcome.Failed (failure.BadReply count)
IsStopTaken stop.Lost count came = came ≡ outcome.Failed failure.Lost
IsStopTaken stop.Memory count came = ⊥

-- why a frame tells nothing: this holds, or memory ran out
abbrev pub IsUnread : Type 0 → Stop → Type 0
IsUnread is_none stop.Refused = is_none
IsUnread is_none stop.Lost = ⊥
IsUnread is_none stop.Memory = Unit {0}
