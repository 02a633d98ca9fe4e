use Rattle.std.proofs.Common.{◌≡◌, ◌++◌, map, vec_capacity}
use Rattle.tf_engines.proofs.hiring.hire.Given as goal

abbrev pub invariant-loop-pass : goal.invariant-loop-pass
invariant-loop-pass g l = record {
  hands : map (λ w. w.hand) l.workers.items ++ l.hands.items ≡ l.fn.hands.items;
  passes : map (λ w. w.pass) l.workers.items ≡ l.yielded;
  room : vec_capacity l.workers ≡ vec_capacity l.initial.workers;
  kept : vec_capacity l.hands ≡ vec_capacity l.fn.hands;
}
