use Rattle.tf_links.specs.Bits.{words_for}
use Rattle.tf_order.specs.Tables.{atoms_found}
use Rattle.tf_order.proofs.DirectLemmas.{FoundBefore}
use Rattle.tf_order.proofs.direct.tasks_at.Given as goal

abbrev pub invariant-loop-item : goal.invariant-loop-item
invariant-loop-item l = FoundBefore l.outline l.flow l.tasks l.items (words_for (atoms_found l.outline)) l.item-index l.found
