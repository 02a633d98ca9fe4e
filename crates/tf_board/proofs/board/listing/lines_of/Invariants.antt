use Rattle.std.proofs.Common.{◌≡◌, take}
use Rattle.std.specs.List.{flat_map}
use Rattle.tf_board.specs.Board.{listed_at, priorities}
use Rattle.tf_board.proofs.board.listing.lines_of.Given as goal

abbrev pub invariant-loop-priority : goal.invariant-loop-priority
invariant-loop-priority l = l.lines.items ≡ flat_map (listed_at l.jobs) (take l.priority-index priorities)
