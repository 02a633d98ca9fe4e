use Rattle.std.proofs.Common.{◌≡◌, ◌++◌, [], map, vec_capacity}
use Rattle.std.specs.List.{All}
use Rattle.tf_board_service.proofs.hiring.hire.Given as goal

abbrev pub invariant-loop-pass : goal.invariant-loop-pass
invariant-loop-pass g l = record {
  links : map (λ w. w.link) l.servers.items ++ l.links.items ≡ l.fn.links.items;
  passes : map (λ w. w.pass) l.servers.items ≡ l.yielded;
  points : All (λ w. w.points.items ≡ []) l.servers.items;
  room : vec_capacity l.servers ≡ vec_capacity l.initial.servers;
  kept : vec_capacity l.links ≡ vec_capacity l.fn.links;
}
