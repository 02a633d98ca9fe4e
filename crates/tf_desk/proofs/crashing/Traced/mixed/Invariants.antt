use Rattle.std.proofs.Common.{◌≡◌, ℕ, ◌<◌, ◌^◌, length, get_or, false}
use Rattle.std.specs.List.{list_any}
use Rattle.tf_desk.specs.Crashed.{is_in_span}
use Rattle.tf_desk.proofs.crashing.Traced.mixed.Given as goal

abbrev pub invariant-loop-place : goal.invariant-loop-place
invariant-loop-place l = record {
  state : l.state < 2 ^ 32;
  long : length l.image.items ≡ l.place;
  same : (k : ℕ) → k < l.place → k < length l.self.synced.items → list_any (is_in_span k) l.self.spans.items ≡ false → get_or l.image.items k 0 ≡ get_or l.self.synced.items k 0;
}
