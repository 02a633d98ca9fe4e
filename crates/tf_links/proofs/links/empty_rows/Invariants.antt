use Rattle.tf_links.proofs.LinkLemmas.{AreEmpty}
use Rattle.tf_links.proofs.links.empty_rows.Given as goal

abbrev pub invariant-loop : goal.invariant-loop
invariant-loop l = AreEmpty l.count l.counter l.rows.items
