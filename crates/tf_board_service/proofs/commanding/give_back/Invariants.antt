use Rattle.std.proofs.Common.{◌≤◌, map}
use Rattle.tf_ports.specs.Ports.{seen_link}
use Rattle.tf_board_service.specs.Sessions.{GivesBack}
use Rattle.tf_board_service.proofs.commanding.give_back.Given as goal

abbrev pub invariant-loop-link : goal.invariant-loop-link
invariant-loop-link g l = record {
  back : GivesBack (map (seen_link g.D.Made.Link.left g.D.Made.Link.transcript g.D.Made.Link.faults g.D.Made.Link.ends) l.yielded) (g.D.Door.told l.fn.door) (g.D.Door.told l.door) l.whole;
  faults : g.D.Door.faults l.fn.door ≤ g.D.Door.faults l.door;
}
