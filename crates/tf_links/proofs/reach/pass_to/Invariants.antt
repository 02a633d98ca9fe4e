use Rattle.std.proofs.Common.{length, take}
use Rattle.tf_links.proofs.ReachLemmas.{PassedAmong}
use Rattle.tf_links.proofs.reach.pass_to.Given as goal

abbrev pub invariant-loop-u : goal.invariant-loop-u
invariant-loop-u l = PassedAmong (length l.fn.rows.items) l.fn.rows.items l.pivot l.through l.rows.items (take l.u-index l.items)
