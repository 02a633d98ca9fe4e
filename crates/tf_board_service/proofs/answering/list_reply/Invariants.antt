use Rattle.std.proofs.Common.{◌≡◌, map, take}
use Rattle.tf_board_service.specs.Sessions.{list_line}
use Rattle.tf_board_service.proofs.answering.list_reply.Given as goal

-- the lines are those of the first jobs
abbrev pub invariant-loop-at : goal.invariant-loop-at
invariant-loop-at g l = l.lines.items ≡ map list_line (take l.at l.list.items)
