use Rattle.std.proofs.Common.{◌≡◌}
use Rattle.tf_turnstile.specs.Seats.{IsSameSeat}
use Rattle.tf_turnstile.proofs.turns.take_out.Given as goal

-- the seat stays as it was
abbrev pub invariant-loop : goal.invariant-loop
invariant-loop g l = IsSameSeat l.fn.seat l.seat × (l.seat.me ≡ l.fn.seat.me)
