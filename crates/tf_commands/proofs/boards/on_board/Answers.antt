use Rattle.tf_desk.specs.State.{told_as}
use Rattle.tf_board.proofs.DoesLemmas.{does_status}
use Rattle.tf_commands.proofs.BoardLemmas.{board_causes}
use Rattle.tf_commands.proofs.boards.on_board.Goals as goal

pub returns-clause-causes : goal.returns-clause-causes
returns-clause-causes g c =
    let b = c.board_command-desk in
    board_causes b.ensures.causes
    (does_status c.args.request c.args.board.now (told_as (g.K.Desk.state b.result.0) (g.K.Desk.state c.args.desk)) (g.K.Desk.state b.result.0) b.result.1 b.ensures.does)
