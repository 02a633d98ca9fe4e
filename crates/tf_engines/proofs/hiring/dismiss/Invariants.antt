use Rattle.std.proofs.Common.{◌≡◌, false, map, vec_capacity}
use Rattle.std.specs.List.{All}
use Rattle.tf_engines.proofs.hiring.dismiss.Given as goal

abbrev pub invariant-loop-worker : goal.invariant-loop-worker
invariant-loop-worker g l = record {
  hands : l.hands.items ≡ map (λ w. w.hand) l.yielded;
  passes : l.passes.items ≡ map (λ w. w.pass) l.yielded;
  hands_room : vec_capacity l.hands ≡ vec_capacity l.fn.hands;
  passes_room : vec_capacity l.passes ≡ vec_capacity l.fn.passes;
  failed : l.failed ≡ false → All (λ w. w.failed ≡ false) l.yielded;
}
