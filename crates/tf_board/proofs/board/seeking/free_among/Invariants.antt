use Rattle.std.proofs.Common.{◌≡◌, take, None}
use Rattle.std.specs.List.{find, filter, flat_map}
use Rattle.tf_board.specs.Board.{is_listed, priorities}
use Rattle.tf_board.specs.Seeking.{is_takable}
use Rattle.tf_board.proofs.board.seeking.free_among.Given as goal

abbrev pub invariant-loop-priority : goal.invariant-loop-priority
invariant-loop-priority l = find (is_takable l.kept.jobs.items l.skip) (flat_map (λ p. filter (is_listed p) l.kept.jobs.items) (take l.priority-index priorities)) ≡ None
