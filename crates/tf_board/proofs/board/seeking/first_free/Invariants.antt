use Rattle.std.proofs.Common.{◌≡◌, take, None}
use Rattle.std.specs.Prelude.{◌&&◌}
use Rattle.std.specs.List.{find}
use Rattle.tf_board.specs.Board.{is_listed}
use Rattle.tf_board.specs.Seeking.{is_takable}
use Rattle.tf_board.proofs.board.seeking.first_free.Given as goal

abbrev pub invariant-loop-place : goal.invariant-loop-place
invariant-loop-place l = find (λ job. is_listed l.priority job && is_takable l.kept.jobs.items l.skip job) (take l.place l.kept.jobs.items) ≡ None
