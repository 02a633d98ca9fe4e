use Rattle.std.proofs.Common.{◌≡◌, ◌++◌, map, vec_capacity}
use Rattle.tf_runner.proofs.hiring.runners_of.Given as goal

abbrev pub invariant-loop-share : goal.invariant-loop-share
invariant-loop-share g l = record {
  hands : map (λ runner. runner.hand) l.runners.items ++ l.hands.items ≡ l.fn.hands.items;
  shares : map (λ runner. runner.files) l.runners.items ≡ l.yielded;
  room : vec_capacity l.runners ≡ vec_capacity l.initial.runners;
  kept : vec_capacity l.hands ≡ vec_capacity l.fn.hands;
}
