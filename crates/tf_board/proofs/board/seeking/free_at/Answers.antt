use Rattle.std.proofs.Common.{◌∙◌}
use Rattle.tf_board.specs.Board.{is_listed}
use Rattle.tf_board.specs.Seeking.{is_takable}
use Rattle.tf_board.proofs.SeekingLemmas.{find_among}
use Rattle.tf_board.proofs.board.seeking.free_at.Goals as goal

pub returns : goal.returns
returns c = c.first_free.ensures ∙ find_among (is_takable c.args.kept.now.jobs.items c.args.skip.now) (is_listed c.args.priority) c.args.kept.now.jobs.items
