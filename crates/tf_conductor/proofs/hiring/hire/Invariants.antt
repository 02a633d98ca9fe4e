use Rattle.std.proofs.Common.{◌≡◌, ◌++◌, map, vec_capacity}
use Rattle.tf_conductor.proofs.hiring.hire.Given as goal

abbrev pub invariant-loop-pass : goal.invariant-loop-pass
invariant-loop-pass g l = record {
  runners : map (λ w. w.runner) l.conductors.items ++ l.runners.items ≡ l.fn.runners.items;
  passes : map (λ w. w.pass) l.conductors.items ≡ l.yielded;
  room : vec_capacity l.conductors ≡ vec_capacity l.initial.conductors;
  kept : vec_capacity l.runners ≡ vec_capacity l.fn.runners;
}
