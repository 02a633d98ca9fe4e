use Rattle.std.proofs.Common.{◌≡◌, length}
use Rattle.tf_links.proofs.BitLemmas.{Joined}
use Rattle.tf_links.proofs.bits.Bits.union.Given as goal

abbrev pub invariant-loop-i : goal.invariant-loop-i
invariant-loop-i l = record {
  joined : Joined l.fn.self l.other l.self-inside.words.items l.i;
  count : length l.self-inside.words.items ≡ length l.fn.self;
}
