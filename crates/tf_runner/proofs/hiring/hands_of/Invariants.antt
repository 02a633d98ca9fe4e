use Rattle.std.proofs.Common.{◌≡◌, length, vec_capacity}
use Rattle.tf_runner.proofs.hiring.hands_of.Given as goal

abbrev pub invariant-loop-runner : goal.invariant-loop-runner
invariant-loop-runner g l = record {
  count : length l.hands.items ≡ length l.yielded;
  room : vec_capacity l.hands ≡ vec_capacity l.initial.hands;
}
