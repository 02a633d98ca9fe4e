use Rattle.std.proofs.Common.{◌≡◌, ◌≤◌, map, vec_len, vec_capacity}
use Rattle.tf_ports.specs.Ports.{seen_link}
use Rattle.tf_board_service.specs.Sessions.{gave_links}
use Rattle.tf_board_service.proofs.commanding.accept_all.Given as goal

abbrev pub invariant-loop-taken : goal.invariant-loop-taken
invariant-loop-taken g l = record {
  many : vec_len l.links ≡ l._taken;
  room : vec_capacity l.links ≡ vec_capacity l.initial.links;
  gave : g.D.Door.told l.door ≡ gave_links (g.D.Door.told l.fn.door) (map (seen_link g.D.Made.Link.left g.D.Made.Link.transcript g.D.Made.Link.faults g.D.Made.Link.ends) l.links.items);
  faults : g.D.Door.faults l.fn.door ≤ g.D.Door.faults l.door;
}
