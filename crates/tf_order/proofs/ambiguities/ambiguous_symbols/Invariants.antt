use Rattle.tf_order.proofs.AmbiguityLemmas.{AmbiguitiesBelow}
use Rattle.tf_order.proofs.ambiguities.ambiguous_symbols.Given as goal

abbrev pub invariant-loop-atom : goal.invariant-loop-atom
invariant-loop-atom l = AmbiguitiesBelow l.context l.item l.symbols.items l.atom
