use Rattle.std.proofs.Common.{◌≡◌, [], map}
use Rattle.tf_turnstile.specs.Seats.{IsSameSeat}
use Rattle.tf_turnstile.proofs.passes.take_back.Given as goal

-- what those have seen that were taken back
abbrev pub invariant-loop-pass : goal.invariant-loop-pass
invariant-loop-pass g l = IsSameSeat l.fn.last l.last × (l.last.me ≡ (record l.fn.last.me.0 { back = map (λ pass. pass.seen) l.yielded }, []))
