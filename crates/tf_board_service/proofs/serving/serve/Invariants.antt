use Rattle.tf_turnstile.specs.Passes.{IsIdle}
use Rattle.tf_ports.specs.Ports.{seen_link}
use Rattle.tf_board_service.specs.Turning.{seen_calls, start_past}
use Rattle.tf_board_service.specs.Turns.{HasAnsweredAll}
use Rattle.tf_board_service.proofs.serving.serve.Given as goal

abbrev pub invariant-frames : goal.invariant-frames
invariant-frames g l = record {
  idle : IsIdle l.turnstile l.number l.server.pass;
  all : HasAnsweredAll l.number (start_past l.turnstile) (seen_calls l.server.pass) (seen_link g.L.Link.left g.L.Link.transcript g.L.Link.faults g.L.Link.ends l.fn.server.link)
      (seen_link g.L.Link.left g.L.Link.transcript g.L.Link.faults g.L.Link.ends l.server.link) l.server.points.items l.incoming;
}
