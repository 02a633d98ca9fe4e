use Rattle.std.proofs.Common.{◌≡◌, ◌+◌, ◌++◌, take}
use Rattle.tf_board_service.specs.Sessions.{session_lines}
use Rattle.tf_board_service.proofs.saying.append_sessions.Given as goal

abbrev pub invariant-loop-session : goal.invariant-loop-session
invariant-loop-session l = record {
  lines : l.out.items ≡ l.initial.out.items ++ session_lines 1 (take l.session-index l.sessions);
  number : l.number ≡ l.session-index + 1;
}
