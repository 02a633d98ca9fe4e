use Rattle.std.proofs.Common.{◌≡◌, ℕ, length, slice_index_or}
use Rattle.tf_links.proofs.bits.Bits.new.Given as goal

abbrev pub invariant-loop : goal.invariant-loop
invariant-loop l = record {
  zero : (k : ℕ) → slice_index_or l.words.items k 0 ≡ 0;
  count : length l.words.items ≡ l.counter;
}
