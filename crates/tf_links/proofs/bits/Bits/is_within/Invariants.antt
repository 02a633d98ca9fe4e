use Rattle.tf_links.proofs.BitLemmas.{WithinBelow}
use Rattle.tf_links.proofs.bits.Bits.is_within.Given as goal

abbrev pub invariant-loop-i : goal.invariant-loop-i
invariant-loop-i l = WithinBelow l.self l.other l.i
