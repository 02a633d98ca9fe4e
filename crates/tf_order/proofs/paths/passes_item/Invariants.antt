use Rattle.std.proofs.Common.{◌≡◌, Some, drop}
use Rattle.tf_model.specs.Before as before
use Rattle.tf_order.proofs.paths.passes_item.Given as goal

abbrev pub invariant-loop-turn : goal.invariant-loop-turn
invariant-loop-turn l = before.passes_item l.flow (Some l.item) (drop l.turn-index l.path) ≡ before.passes_item l.flow (Some l.item) l.path
