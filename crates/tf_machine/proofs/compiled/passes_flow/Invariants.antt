use Rattle.std.proofs.Common.{◌≡◌, drop}
use Rattle.tf_model.specs.Before.{passes_flow}
use Rattle.tf_machine.proofs.compiled.passes_flow.Given as goal

abbrev pub invariant-loop-turn : goal.invariant-loop-turn
invariant-loop-turn l = passes_flow l.flow (drop l.turn-index l.path) ≡ passes_flow l.flow l.path
