use Rattle.std.proofs.Common.{◌≡◌, ◌+◌, length, vec_capacity}
use Rattle.tf_turnstile.proofs.DealLemmas.{AreDealt}
use Rattle.tf_turnstile.proofs.passes.Turnstile.deal.Given as goal

-- as many were dealt out as there were turns
abbrev pub invariant-loop-number : goal.invariant-loop-number
invariant-loop-number g l = AreDealt l.self l.passes.items l.seat × (length l.passes.items + 1 ≡ l._number) × (vec_capacity l.passes ≡ l.count)
