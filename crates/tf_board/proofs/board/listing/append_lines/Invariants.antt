use Rattle.std.proofs.Common.{◌≡◌, ◌++◌, take}
use Rattle.tf_board.specs.Board.{listed_at}
use Rattle.tf_board.proofs.board.listing.append_lines.Given as goal

abbrev pub invariant-loop-job : goal.invariant-loop-job
invariant-loop-job l = l.lines.items ≡ l.initial.lines.items ++ listed_at (take l.job-index l.jobs) l.priority
