use Rattle.std.proofs.Common.{take}
use Rattle.tf_model.specs.Plan.{outline_of}
use Rattle.tf_rules.proofs.ResolutionLemmas.{Walked}
use Rattle.tf_rules.proofs.resolutions.resolve.Given as goal

abbrev pub invariant-loop-turn : goal.invariant-loop-turn
invariant-loop-turn l = Walked (outline_of l.plan) l.answers l.atom (take l.turn-index l.turn-items) l.found l.is_outermost
