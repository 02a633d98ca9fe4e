use Rattle.std.proofs.Common.{length}
use Rattle.tf_links.proofs.ReachLemmas.{PassedBelow}
use Rattle.tf_links.proofs.reach.pass.Given as goal

abbrev pub invariant-loop-u : goal.invariant-loop-u
invariant-loop-u l = PassedBelow (length l.fn.rows.items) l.fn.rows.items l.pivot l.through l.rows.items l.u
