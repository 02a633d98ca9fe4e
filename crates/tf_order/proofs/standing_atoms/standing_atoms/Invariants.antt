use Rattle.std.proofs.Common.{take}
use Rattle.tf_order.proofs.StandingAtomLemmas.{AtomsOf}
use Rattle.tf_order.proofs.standing_atoms.standing_atoms.Given as goal

abbrev pub invariant-loop-item : goal.invariant-loop-item
invariant-loop-item l = AtomsOf l.context l.atoms.items (take l.item-index l.item-items)
