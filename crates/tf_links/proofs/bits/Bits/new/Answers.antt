use Rattle.tf_links.proofs.BitLemmas.{zeros_none}
use Rattle.tf_links.proofs.bits.Bits.new.Goals as goal

pub returns-clause-none : goal.returns-clause-none
returns-clause-none c = λ k. zeros_none c.loop.words.items k c.loop.invariant.zero
