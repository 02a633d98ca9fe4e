use Rattle.std.proofs.Common.{◌≡◌, reverse, take}
use Rattle.std.specs.Prelude.{option_map}
use Rattle.tf_desk.specs.Crashed.{picked_in_log}
use Rattle.tf_desk.proofs.crashing.picked_in.Given as goal

abbrev pub invariant-loop-entry : goal.invariant-loop-entry
invariant-loop-entry l = option_map (λ name. name.now) l.picked ≡ picked_in_log (reverse (take l.entry-index l.log))
