use Rattle.std.proofs.Common.{◌≡◌, ◌<◌, ℕ, false}
use Rattle.tf_links.specs.Links.{leads}
use Rattle.tf_order.proofs.ambiguities.cycle_fault.Given as goal

abbrev pub invariant-loop-item : goal.invariant-loop-item
invariant-loop-item l = (k : ℕ) → k < l.item → leads l.reach k k ≡ false
