use Rattle.std.proofs.Common.{arith}
use Rattle.tf_board_service.proofs.SayingLemmas.{lines_taken}
use Rattle.tf_board_service.proofs.saying.append_sessions.Goals as goal

pub loop-session-preserved : goal.loop-session-preserved
loop-session-preserved c = record {
  lines = lines_taken c.args.sessions.now c.loop-session.session-index c.loop-session.number c.session-item.result _ _ _ (omega arith) c.session-item.is c.loop-session.invariant.number c.loop-session.invariant.lines c.in_ok-append_line.ensures;
  number = omega (arith, c.loop-session.invariant.number);
}
