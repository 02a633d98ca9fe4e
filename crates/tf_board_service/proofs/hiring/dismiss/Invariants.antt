use Rattle.std.proofs.Common.{◌≡◌, false, map, vec_capacity}
use Rattle.std.specs.List.{All}
use Rattle.tf_board_service.specs.Sessions.{is_halted}
use Rattle.tf_board_service.proofs.hiring.dismiss.Given as goal

abbrev pub invariant-loop-server : goal.invariant-loop-server
invariant-loop-server g l = record {
  links : l.links.items ≡ map (λ w. w.link) l.yielded;
  passes : l.passes.items ≡ map (λ w. w.pass) l.yielded;
  sessions : l.sessions.items ≡ map (λ w. record { end = w.end; points = w.points.items }) l.yielded;
  links_room : vec_capacity l.links ≡ vec_capacity l.fn.links;
  passes_room : vec_capacity l.passes ≡ vec_capacity l.fn.passes;
  sessions_room : vec_capacity l.sessions ≡ vec_capacity l.fn.sessions;
  halted : l.halted ≡ false → All (λ w. is_halted w.end ≡ false) l.yielded;
}
