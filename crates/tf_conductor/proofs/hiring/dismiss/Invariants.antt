use Rattle.std.proofs.Common.{◌≡◌, false, map, vec_capacity}
use Rattle.std.specs.List.{All}
use Rattle.tf_conductor.proofs.hiring.dismiss.Given as goal

abbrev pub invariant-loop-conductor : goal.invariant-loop-conductor
invariant-loop-conductor g l = record {
  runners : l.runners.items ≡ map (λ w. w.runner) l.yielded;
  passes : l.passes.items ≡ map (λ w. w.pass) l.yielded;
  runners_room : vec_capacity l.runners ≡ vec_capacity l.fn.runners;
  passes_room : vec_capacity l.passes ≡ vec_capacity l.fn.passes;
  halted : l.halted ≡ false → All (λ w. w.halted ≡ false) l.yielded;
}
