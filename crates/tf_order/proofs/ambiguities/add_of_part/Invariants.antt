use Rattle.tf_flow.specs.Paths.{shown_part}
use Rattle.std.proofs.Common.{take}
use Rattle.tf_order.proofs.AmbiguityLemmas.{AmbiguitiesSeen}
use Rattle.tf_order.proofs.ambiguities.add_of_part.Given as goal

abbrev pub invariant-loop-arg : goal.invariant-loop-arg
invariant-loop-arg l = AmbiguitiesSeen l.context l.item l.atom (shown_part l.part) l.fn.symbols.items l.symbols.items (take l.arg-index l.arg-items)
