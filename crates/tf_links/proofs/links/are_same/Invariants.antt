use Rattle.tf_links.proofs.LinkLemmas.{AreSameBelow}
use Rattle.tf_links.proofs.links.are_same.Given as goal

abbrev pub invariant-loop-u : goal.invariant-loop-u
invariant-loop-u l = AreSameBelow l.rows l.other l.u
