use Rattle.tf_links.proofs.BitLemmas.{ApartBelow}
use Rattle.tf_links.proofs.bits.Bits.first_common.Given as goal

abbrev pub invariant-loop-i : goal.invariant-loop-i
invariant-loop-i l = ApartBelow l.self l.other l.i
